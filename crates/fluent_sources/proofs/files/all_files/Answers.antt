use Rattle.std.proofs.Common.{◌≡◌, ◌∙◌, ◌++◌, ap, arith, length, map}
use Rattle.std.proofs.lemmas.List.{length-map}
use Rattle.fluent_sources.specs.ReadFiles.{file_view, files_in, files_read}
use Rattle.fluent_sources.proofs.Split.{parts_are}
use Rattle.fluent_sources.proofs.files.all_files.Goals as goal

pub returns : goal.returns
returns c =
    let first = c.add_sources.new.files in
    let second = c.add_sources-2.new.files in
    let b = files_read 0 c.args.beside.now in
    let s = files_read (length b) c.args.sources.now in
    let r = files_read (length (b ++ s)) c.args.references.now in
    let b_is : files_in first ≡ b = c.in_ok-add_sources.ensures ∙ ap (λ l. map file_view l ++ files_read (length l) c.args.beside.now) c.new-list.ensures.items in
    let m : length first.items ≡ length b = omega (arith, length-map first.items file_view, ap length b_is) in
    let s_is : files_in second ≡ b ++ s =
    c.in_ok-add_sources-2.ensures ∙ (ap (λ l. l ++ files_read (length first.items) c.args.sources.now) b_is ∙ ap (λ k. b ++ files_read k c.args.sources.now) m) in
    let n : length second.items ≡ length (b ++ s) = omega (arith, length-map second.items file_view, ap length s_is) in
    let all : files_in c.add_sources-3.new.files ≡ (b ++ s) ++ r =
    c.in_ok-add_sources-3.ensures ∙ (ap (λ l. l ++ files_read (length second.items) c.args.references.now) s_is ∙ ap (λ k. (b ++ s) ++ files_read k c.args.references.now) n) in
    record {
      all = all;
      parts = parts_are (files_in c.add_sources-3.new.files) b s r c.len-first.result c.len-behind.result all (omega (arith, c.len-first.ensures, first.ok.0, m)) (omega (arith, c.len-behind.ensures, second.ok.0, n));
    }
