use Rattle.std.proofs.Common.{◌≡◌, ◌∙◌, ap, ◌++◌, List, ℕ, arith, Some, take, replicate}
use Rattle.core_edit.proofs.Texts.{take_zeros}
use Rattle.core_edit.proofs.raw.padded.Goals as goal

pub returns : goal.returns
returns c =
    let put : c.extend_from_slice.new.self.items ≡ c.in_ok-raw.raw.items ++ take c.args.zeros (replicate 512 0) = c.in_ok-extend_from_slice.ensures.items in
    ap Some (c.of.ensures ∙ put ∙ ap (λ (xs : List ℕ). xs ++ take c.args.zeros (replicate 512 0)) c.in_ok-raw.ensures.items ∙ ap (λ (xs : List ℕ). c.args.text.now ++ xs) (take_zeros c.args.zeros 512 (omega (arith, c.requires))))
