-- A name that is copied over zeros is kept.
use Rattle.std.proofs.Common.{◌≡◌, ℕ, ◌+◌, ◌-◌, ◌≤◌, List, ◌++◌, length, take, drop, replicate, Bool, true, refl, sym, ap, ◌∙◌, arith, nat_le, nat_lt, subst}
use Rattle.std.proofs.Math.Seq.{take-append_seam}
use Rattle.std.proofs.lemmas.List.{drop-replicate}
use Rattle.part_tree.specs.Keys.{filled, Keeps, is_key_name}

pub keeps_copied : (bytes name : List ℕ) → bytes ≡ name → is_key_name name ≡ true → Keeps (bytes ++ drop (length name) (replicate 255 0)) (length name)
keeps_copied bytes name same is =
    let P : List ℕ → Type 0 = λ b. Keeps (b ++ drop (length name) (replicate 255 0)) (length name) in
    let rest : List ℕ = drop (length name) (replicate 255 0) in
    let view : take (length name) (name ++ rest) ≡ name = take-append_seam name rest in
    subst P (sym same) (record {
      long = ap length view;
      zeros = ap filled view ∙ ap (λ (zs : List ℕ). name ++ zs) (sym (drop-replicate (length name) 255 0));
      name = ap is_key_name view ∙ is;
    })
