use Rattle.std.proofs.Common.{◌≡◌, ◌++◌, ap, map, ◌∙◌}
use Rattle.std.specs.List.{filter_map}
use Rattle.fluent_ast.specs.View.{pattern_view}
use Rattle.fluent_places.specs.Asked.{texts}
use Rattle.fluent_places.specs.Places.{views}
use Rattle.fluent_places.specs.NeedsView.{need_view}
use Rattle.fluent_patterns.specs.Found.{flaws_in}
use Rattle.fluent_patterns.specs.Names.{once}
use Rattle.fluent_patterns.specs.Shown.{shown}
use Rattle.fluent_patterns.specs.declared.shown.Wanted.TheVariants.{Functions}
use Rattle.fluent_differences.specs.Among.{is_in}
use Rattle.fluent_differences.specs.Compared.{flaws_by, function_of, of_functions_left_out, of_terms_left_out, of_unknown_variables, references, term_of, variables_left_out}
use Rattle.fluent_differences.proofs.Naming.{chained_ok, functions_same, terms_same}
use Rattle.fluent_differences.proofs.compared.add_differences.Goals as goal

pub returns : goal.returns
returns c =
    let there = references (pattern_view c.args.reference.now.pattern.now) in
    let here = references (pattern_view c.args.translation.now.pattern.now) in
    let places = views c.args.places.now.keys in
    let asked_there = texts c.args.reference.now.asked.now.keys in
    let asked_here = texts c.args.translation.now.asked.now.keys in
    let pattern = pattern_view c.args.reference.now.pattern.now in
    let terms = texts c.in_ok-own.own.terms.keys in
    let functions = texts c.in_ok-own.own.functions.keys in
    let answers = once (shown Functions (pattern_view c.args.reference.now.pattern.now)) in
    let of_own : map need_view c.deref.result.now ≡ here = ap (λ l. map need_view l) c.deref.ensures.value ∙ c.in_ok-here.ensures in
    let of_here : map need_view c.deref-2.result.now ≡ here = ap (λ l. map need_view l) c.deref-2.ensures.value ∙ c.in_ok-here.ensures in
    let of_variables : map need_view c.deref-3.result.now ≡ there = ap (λ l. map need_view l) c.deref-3.ensures.value ∙ c.in_ok-there.ensures in
    let of_terms : map need_view c.deref-4.result.now ≡ there = ap (λ l. map need_view l) c.deref-4.ensures.value ∙ c.in_ok-there.ensures in
    let of_functions : map need_view c.deref-5.result.now ≡ there = ap (λ l. map need_view l) c.deref-5.ensures.value ∙ c.in_ok-there.ensures in
    chained_ok c.add_functions_left_out.result (flaws_in c.args.flaws.now) (flaws_in c.add_by.new.flaws) (flaws_in c.add_variables_left_out.new.flaws) (flaws_in c.add_by-2.new.flaws) (flaws_in c.add_functions_left_out.new.flaws)
    (flaws_by (of_unknown_variables asked_there) here) (variables_left_out pattern asked_here there)
    (flaws_by (of_terms_left_out places (filter_map term_of here)) there) (flaws_by (of_functions_left_out (filter_map function_of here) answers) there)
    (flaws_by (of_functions_left_out functions answers) (map need_view c.deref-5.result.now))
    (c.in_ok-add_by.ensures ∙ ap (λ ns. flaws_in c.args.flaws.now ++ flaws_by (of_unknown_variables asked_there) ns) of_here)
    (c.in_ok-add_variables_left_out.ensures ∙ ap (λ ns. flaws_in c.add_by.new.flaws ++ variables_left_out pattern asked_here ns) of_variables)
    (c.in_ok-add_by-2.ensures ∙ ap (λ fs. flaws_in c.add_variables_left_out.new.flaws ++ fs)
    (ap (flaws_by (of_terms_left_out places terms)) of_terms ∙ terms_same places terms (filter_map term_of here) there (λ v. c.in_ok-own.ensures.terms v ∙ ap (λ ns. is_in v (filter_map term_of ns)) of_own)))
    (ap (flaws_by (of_functions_left_out functions answers)) of_functions ∙ functions_same functions (filter_map function_of here) answers there (λ v. c.in_ok-own.ensures.functions v ∙ ap (λ ns. is_in v (filter_map function_of ns)) of_own))
    c.add_functions_left_out.ensures
