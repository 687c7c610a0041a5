-- Short atoms, one after the other.
use Rattle.std.proofs.Common.{◌≡◌, ℕ, zero, suc, ◌+◌, ◌-◌, ◌<◌, ◌≤◌, Bool, true, false, leb, List, [], ◌∷◌, ◌++◌, length, take, drop, refl, sym, ap, ◌∙◌, append_assoc, arith, Option, Some, None, length-drop}
use Rattle.std.proofs.lemmas.Bool.{leb-true, and_parts}
use Rattle.std.proofs.lemmas.List.{append-nil, drop_all, drop-drop}
use Rattle.container_model.specs.Atoms.{atom}
use Rattle.container_model.specs.Chunk.{Chunk}
use Rattle.qt_keys.specs.Short.{and_others, atom_at, atom_then, each, each_in, size_at, stands_at}

-- what a header that stands says
pub stands : (b : List ℕ) → stands_at b ≡ true → (8 ≤ size_at b) × (size_at b ≤ length b)
stands b h = let p = and_parts (leb 8 (size_at b)) (leb (size_at b) (length b)) h in (leb-true 8 (size_at b) p.0, leb-true (size_at b) (length b) p.1)

module _ {A : Type 0} (g : Chunk → Option A) where
  -- the count of turns does not matter where it is enough
  enough : (j k : ℕ) (b : List ℕ) → length b ≤ j → length b ≤ k → each_in g j b ≡ each_in g k b
  enough zero zero [] lj lk = refl
  enough zero (suc k) [] lj lk = refl
  enough (suc j) zero [] lj lk = refl
  enough (suc j) (suc k) [] lj lk = refl
  enough zero k (x ∷ b) lj lk = absurd (omega arith)
  enough (suc j) zero (x ∷ b) lj lk = absurd (omega arith)
  enough (suc j) (suc k) (x ∷ b) lj lk = go (stands_at (x ∷ b)) refl (λ c lj lk. enough j k c lj lk)
    where
      go : (t : Bool) → stands_at (x ∷ b) ≡ t → ((c : List ℕ) → length c ≤ j → length c ≤ k → each_in g j c ≡ each_in g k c) → atom_then g (each_in g j) (x ∷ b) t ≡ atom_then g (each_in g k) (x ∷ b) t
      go false e again = refl
      go true e again =
          let s = stands (x ∷ b) e in
          let less : length (drop (size_at (x ∷ b)) (x ∷ b)) ≤ length b = omega (arith, s.0, length-drop (size_at (x ∷ b)) (x ∷ b)) in
          ap (and_others (g (atom_at (x ∷ b)))) (again (drop (size_at (x ∷ b)) (x ∷ b)) (omega (arith, less)) (omega (arith, less)))

  -- an atom that stands, and the others
  pub each_more : (b : List ℕ) → 0 < length b → stands_at b ≡ true → each g b ≡ and_others (g (atom_at b)) (each g (drop (size_at b) b))
  unfolding each
  each_more [] some e = absurd (omega arith)
  each_more (x ∷ b) some e =
      let s = stands (x ∷ b) e in
      let less : length (drop (size_at (x ∷ b)) (x ∷ b)) ≤ length b = omega (arith, s.0, length-drop (size_at (x ∷ b)) (x ∷ b)) in
      ap (atom_then g (each_in g (length b)) (x ∷ b)) e
      ∙ ap (and_others (g (atom_at (x ∷ b)))) (enough (length b) (length (drop (size_at (x ∷ b)) (x ∷ b))) (drop (size_at (x ∷ b)) (x ∷ b)) less (omega arith))

  -- one that doesn't
  pub each_cut : (b : List ℕ) → 0 < length b → stands_at b ≡ false → each g b ≡ None
  unfolding each
  each_cut [] some e = absurd (omega arith)
  each_cut (x ∷ b) some e = ap (atom_then g (each_in g (length b)) (x ∷ b)) e

  pub each_none : each g [] ≡ Some []
  unfolding each
  each_none = refl

  -- ---- those that were read, and those that are left

  abbrev pub all_with : List A → Option (List A) → Option (List A)
  all_with xs None = None
  all_with xs (Some ys) = Some (xs ++ ys)

  one_more : (xs : List A) (x : A) (o : Option (List A)) → all_with (xs ++ x ∷ []) o ≡ all_with xs (and_others (Some x) o)
  one_more xs x None = refl
  one_more xs x (Some ys) = ap Some (append_assoc xs (x ∷ []) ys)

  abbrev pub Left : List ℕ → ℕ → List A → Type 0
  Left bytes at xs = all_with xs (each g (drop at bytes)) ≡ each g bytes

  left_more : (bytes : List ℕ) (at : ℕ) (xs : List A) → at < length bytes → stands_at (drop at bytes) ≡ true → Left bytes at xs
      → all_with xs (and_others (g (atom_at (drop at bytes))) (each g (drop (at + size_at (drop at bytes)) bytes))) ≡ each g bytes
  left_more bytes at xs room is left =
      let b = drop at bytes in
      let next : drop (size_at b) b ≡ drop (at + size_at b) bytes = drop-drop (size_at b) at bytes ∙ ap (λ (n : ℕ). drop n bytes) (omega arith) in
      ap (λ (x : List ℕ). all_with xs (and_others (g (atom_at b)) (each g x))) (sym next)
      ∙ ap (all_with xs) (sym (each_more b (omega (arith, length-drop at bytes)) is)) ∙ left

  pub left_push : (bytes : List ℕ) (at size : ℕ) (xs new : List A) (x : A) → at < length bytes → stands_at (drop at bytes) ≡ true → size ≡ size_at (drop at bytes) → Some x ≡ g (atom_at (drop at bytes)) → new ≡ xs ++ x ∷ []
      → Left bytes at xs → Left bytes (at + size) new
  left_push bytes at size xs new x room is len read put left =
      ap (λ (ys : List A). all_with ys (each g (drop (at + size) bytes))) put
      ∙ one_more xs x (each g (drop (at + size) bytes))
      ∙ ap (λ (n : ℕ). all_with xs (and_others (Some x) (each g (drop (at + n) bytes)))) len
      ∙ ap (λ (o : Option A). all_with xs (and_others o (each g (drop (at + size_at (drop at bytes)) bytes)))) read
      ∙ left_more bytes at xs room is left

  pub left_refused : (bytes : List ℕ) (at : ℕ) (xs : List A) → at < length bytes → stands_at (drop at bytes) ≡ true → None ≡ g (atom_at (drop at bytes)) → Left bytes at xs → each g bytes ≡ None
  left_refused bytes at xs room is read left =
      sym (left_more bytes at xs room is left) ∙ ap (λ (o : Option A). all_with xs (and_others o (each g (drop (at + size_at (drop at bytes)) bytes)))) (sym read)

  pub left_cut : (bytes : List ℕ) (at : ℕ) (xs : List A) → at < length bytes → stands_at (drop at bytes) ≡ false → Left bytes at xs → each g bytes ≡ None
  left_cut bytes at xs room is left = sym left ∙ ap (all_with xs) (each_cut (drop at bytes) (omega (arith, length-drop at bytes)) is)

  pub left_end : (bytes : List ℕ) (at : ℕ) (xs : List A) → length bytes ≤ at → Left bytes at xs → each g bytes ≡ Some xs
  left_end bytes at xs past left =
      sym left ∙ ap (λ (b : List ℕ). all_with xs (each g b)) (drop_all at bytes past) ∙ ap (all_with xs) each_none ∙ ap Some (append-nil xs)

  pub left_start : (bytes : List ℕ) → Left bytes 0 []
  left_start bytes = go (each g bytes)
    where
      go : (o : Option (List A)) → all_with [] o ≡ o
      go None = refl
      go (Some ys) = refl

-- the atom whose type and body these are
pub same_atom : (bytes kind : List ℕ) (at size : ℕ) → size ≡ size_at (drop at bytes) → 8 ≤ size → kind ≡ take 4 (drop 4 (drop at bytes))
    → atom kind (take (at + size - (at + 8)) (drop (at + 8) bytes)) ≡ atom_at (drop at bytes)
same_atom bytes kind at size len low type =
    let n : at + size - (at + 8) ≡ size_at (drop at bytes) - 8 = omega (arith, len) in
    ap (λ (x : List ℕ). atom x (take (at + size - (at + 8)) (drop (at + 8) bytes))) type
    ∙ ap (λ (k : ℕ). atom (take 4 (drop 4 (drop at bytes))) (take k (drop (at + 8) bytes))) n
    ∙ ap (λ (x : List ℕ). atom (take 4 (drop 4 (drop at bytes))) (take (size_at (drop at bytes) - 8) x)) (sym (drop-drop 8 at bytes))
