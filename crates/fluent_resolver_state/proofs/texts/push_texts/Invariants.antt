use Rattle.std.proofs.Common.{◌≡◌, ◌++◌, string_bytes}
use Rattle.fluent_ast.specs.Tree.{Text}
use Rattle.fluent_ast.specs.View.{pattern_view}
use Rattle.fluent_bundle_entries.specs.Texts.{texts_of}
use Rattle.fluent_resolver_state.proofs.TextElements.{texts_from}
use Rattle.fluent_resolver_state.proofs.texts.push_texts.Given as goal

-- what was added until here, and with what is left it is the whole
abbrev pub invariant-loop-element : goal.invariant-loop-element
invariant-loop-element l =
    record {
      pushed : Text;
      so_far : string_bytes l.out ≡ string_bytes l.initial.out ++ pushed;
      whole : pushed ++ texts_from l.element-items l.element-index ≡ texts_of (pattern_view l.pattern);
    }
