use Rattle.fluent_sources.proofs.Split.{mapped}
use Rattle.fluent_sources.proofs.groups.Group.of_all.Goals as goal

pub returns : goal.returns
returns c =
    let files = c.args.files.now in
    mapped files.list.items c.deref.result.now c.deref-2.result.now c.deref-3.result.now files.first files.behind c.deref.ensures.value c.deref-2.ensures.value c.deref-3.ensures.value
