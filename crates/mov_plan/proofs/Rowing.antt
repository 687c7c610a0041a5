-- Atoms so far, and those that are left.
use Rattle.std.proofs.Common.{◌≡◌, ◌≤◌, ◌∙◌, ℕ, List, [], ◌∷◌, ◌++◌, refl, sym, ap, subst, append_assoc, append-nil}
use Rattle.container_model.specs.Chunk.{Run, and_then}
use Rattle.container_model.specs.Sizes.{inside}
use Rattle.qt_atoms.specs.Walk.{InOrder, Stepped, atom_in, row}
use Rattle.qt_atoms.specs.declared.walker.AtomAt.{AtomAt}
use Rattle.std.specs.declared.option.Option.TheVariants.{Some, None}
use Rattle.mov_plan.specs.Atoms.{AllFollow, AreRow}

-- whatever atoms are left are those behind the ones so far
abbrev pub RowLeft : List ℕ → ℕ → List AtomAt → ℕ → ℕ → Type 0
RowLeft b from held at end = (rest : List AtomAt) → AreRow b at rest (row inside b at end).chunks → AreRow b from (held ++ rest) (row inside b from end).chunks

pub left_none : (b : List ℕ) (from : ℕ) (held : List AtomAt) (at end : ℕ) → Stepped inside b at end None → RowLeft b from held at end → AreRow b from held (row inside b from end).chunks
left_none b from held at end step left =
    subst (λ (ks : List AtomAt). AreRow b from ks (row inside b from end).chunks) (append-nil held)
    (left [] (subst (λ (r : Run). AreRow b at [] r.chunks) (sym step) tt))

pub left_more : (b : List ℕ) (from : ℕ) (held now : List AtomAt) (at end : ℕ) (k : AtomAt) → InOrder at end k → Stepped inside b at end (Some k) → now ≡ held ++ k ∷ [] → RowLeft b from held at end → RowLeft b from now k.next end
left_more b from held now at end k order step same left = λ rest are.
    let more : AreRow b at (k ∷ rest) (and_then (atom_in b k) (row inside b k.next end)).chunks = (order.begins, refl, sym step.1, are) in
    subst (λ (ks : List AtomAt). AreRow b from ks (row inside b from end).chunks) (sym (ap (λ (ks : List AtomAt). ks ++ rest) same ∙ append_assoc held (k ∷ []) rest))
    (left (k ∷ rest) (subst (λ (r : Run). AreRow b at (k ∷ rest) r.chunks) (sym step.0) more))

-- the same of their places
abbrev pub FollowLeft : ℕ → List AtomAt → ℕ → ℕ → Type 0
FollowLeft from held at end = (rest : List AtomAt) → AllFollow at rest end → AllFollow from (held ++ rest) end

pub follow_none : (from : ℕ) (held : List AtomAt) (at end : ℕ) → at ≤ end → FollowLeft from held at end → AllFollow from held end
follow_none from held at end le left = subst (λ (ks : List AtomAt). AllFollow from ks end) (append-nil held) (left [] le)

pub follow_more : (from : ℕ) (held now : List AtomAt) (at end : ℕ) (k : AtomAt) → InOrder at end k → now ≡ held ++ k ∷ [] → FollowLeft from held at end → FollowLeft from now k.next end
follow_more from held now at end k order same left = λ rest are.
    subst (λ (ks : List AtomAt). AllFollow from ks end) (sym (ap (λ (ks : List AtomAt). ks ++ rest) same ∙ append_assoc held (k ∷ []) rest)) (left (k ∷ rest) (order, are))
