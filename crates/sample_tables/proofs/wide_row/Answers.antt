use Rattle.std.proofs.Common.{arith, ap, sym, ◌≡◌, ◌+◌, ◌*◌, ◌∙◌, ℕ, take, drop}
use Rattle.std.specs.Int.{w64, from_be_bytes}
use Rattle.std.proofs.lemmas.List.{drop-drop}
use Rattle.sample_tables.proofs.wide_row.Goals as goal

pub returns-clause-place : goal.returns-clause-place
returns-clause-place c =
    let body = c.args.body.now in
    let is : c.copy_from_slice.new.self ≡ take 8 (drop (8 + 8 * c.args.k) body) = grind arith in
    let split : drop (8 + 8 * c.args.k) body ≡ drop (8 * c.args.k) (drop 8 body) = sym (drop-drop (8 * c.args.k) 8 body ∙ ap (λ (i : ℕ). drop i body) (omega arith)) in
    c.from_be_bytes.ensures ∙ ap (from_be_bytes w64) (is ∙ ap (take 8) split)
