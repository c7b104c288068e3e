use Rattle.std.proofs.lemmas.List.{append-nil}
use Rattle.std.proofs.Common.{◌≡◌, ◌∙◌, ◌++◌, [], ◌∷◌, ap, rules, refl, subst, sym}
use Rattle.std.proofs.lemmas.Slice.Zip.{Zip-more, either_empty_from_Zip}
use Rattle.std.specs.Iterator.Adapters.{zip_first, zip_second}
use Rattle.std.specs.List.{zip}
use Rattle.std.specs.Slice.Iter.{iter_rest}
use Rattle.fluent_cli.specs.Files.{pairs, readable_pairs, unread_pairs}
use Rattle.fluent_cli_report.specs.Unread.{unread_views}
use Rattle.fluent_cli.specs.Inside.Reading.{AreReadPairs}
use Rattle.fluent_cli.proofs.PairsRead.{left_more, unread_more, zip_ended}
use Rattle.fluent_cli.proofs.reading.read_pairs.Goals as goal

pub loop-file-init : goal.loop-file-init
loop-file-init c = record {
  beside = refl;
  before = [];
  read = (search rules, search rules);
  left = search rules;
  unread = search rules;
}

pub loop-file-preserved : goal.loop-file-preserved
loop-file-preserved c =
    let it = c.loop-file.invariant in
    let all = readable_pairs (pairs c.args.files.now c.args.references.now) in
    let whole = unread_views c.args.unread.now.items ++ unread_pairs (pairs c.args.files.now c.args.references.now) in
    let s = c.loop-file.file-iterator in
    let t = c.next.new.self in
    let step = Zip-more s t c.next.result (c.in-Some.file, c.in-Some.reference) c.in-Some.is c.next.ensures.steps in
    record {
      beside = c.add_pair.ensures.beside ∙ it.beside;
      before = it.before ++ readable_pairs ((c.in-Some.file.now, c.in-Some.reference.now) ∷ []);
      read = c.in_ok-add_pair.ensures.pair it.before it.read;
      left = left_more all it.before c.in-Some.file.now c.in-Some.reference.now (iter_rest (zip_first s)) (iter_rest (zip_second s)) (iter_rest (zip_first t)) (iter_rest (zip_second t)) step.0 step.1 it.left;
      unread = unread_more whole (unread_views c.loop-file.unread.items) (unread_views c.add_pair.new.unread.items) c.in-Some.file.now c.in-Some.reference.now (iter_rest (zip_first s)) (iter_rest (zip_second s)) (iter_rest (zip_first t)) (iter_rest (zip_second t)) step.0 step.1 c.in_ok-add_pair.ensures.unread it.unread;
    }

pub returns-clause-read : goal.returns-clause-read
returns-clause-read c =
    let it = c.loop-file.invariant in
    let s = c.loop-file.file-iterator in
    let ended = zip_ended (iter_rest (zip_first s)) (iter_rest (zip_second s)) (either_empty_from_Zip s c.next.new.self c.next.result c.in-None.is c.next.ensures.steps) in
    let whole : it.before ≡ readable_pairs (pairs c.args.files.now c.args.references.now) =
    sym (append-nil it.before) ∙ (ap (λ rest. it.before ++ readable_pairs rest) (sym ended) ∙ it.left) in
    subst (λ read. AreReadPairs read c.loop-file.inputs) whole it.read

pub returns-clause-unread : goal.returns-clause-unread
returns-clause-unread c =
    let it = c.loop-file.invariant in
    let s = c.loop-file.file-iterator in
    let ended = zip_ended (iter_rest (zip_first s)) (iter_rest (zip_second s)) (either_empty_from_Zip s c.next.new.self c.next.result c.in-None.is c.next.ensures.steps) in
    sym (append-nil (unread_views c.loop-file.unread.items)) ∙ (ap (λ rest. unread_views c.loop-file.unread.items ++ unread_pairs rest) (sym ended) ∙ it.unread)
