-- What is read of short atoms is spelled as these, and is read of its spelling.
use Rattle.std.proofs.Common.{◌≡◌, ℕ, zero, suc, ◌+◌, ◌-◌, ◌≤◌, Bool, true, false, List, [], ◌∷◌, ◌++◌, length, take, drop, refl, sym, ap, subst, ◌∙◌, append_assoc, arith, Option, Some, None, length-drop}
use Rattle.std.specs.Int.{to_be_bytes, w32}
use Rattle.std.specs.List.{AllByRecursion, flat_map}
use Rattle.std.proofs.lemmas.List.{append-nil, drop_at, length-take, length-take-le, take_at, take-append-drop}
use Rattle.std.proofs.lemmas.Nat.{be_bytes_4}
use Rattle.me_bytes.specs.Bytes.{IsBytes}
use Rattle.container_model.proofs.Codec.{IsBytes-drop}
use Rattle.container_model.proofs.Fronts.{IsBytes-take}
use Rattle.container_model.specs.Atoms.{atom}
use Rattle.container_model.specs.Chunk.{Chunk, spell}
use Rattle.qt_keys.specs.Short.{and_others, atom_at, each, size_at, stands_at}
use Rattle.qt_keys.proofs.Atoms.{each_cut, each_more, each_none, stands}

-- the atom at the front, spelled, and what is behind it
pub atom_back : (b : List ℕ) → IsBytes b → stands_at b ≡ true → spell (atom_at b) ++ drop (size_at b) b ≡ b
atom_back b h st =
    let s = stands b st in
    let body = take (size_at b - 8) (drop 8 b) in
    let len : length body ≡ size_at b - 8 = length-take-le (size_at b - 8) (drop 8 b) (omega (arith, s.1, length-drop 8 b)) in
    let size : to_be_bytes w32 (length body + 8) ≡ take 4 b = ap (to_be_bytes w32) (omega (arith, len, s.0)) ∙ be_bytes_4 (take 4 b) (size_at b) (length-take-le 4 b (omega (arith, s.0, s.1))) (IsBytes-take 4 b h) refl in
    let rest : drop (size_at b) b ≡ drop (size_at b - 8) (drop 8 b) = ap (λ (n : ℕ). drop n b) (omega (arith, s.0)) ∙ sym (Rattle.std.proofs.lemmas.List.drop-drop (size_at b - 8) 8 b) in
    let type = take 4 (drop 4 b) in
    append_assoc (to_be_bytes w32 (length body + 8) ++ type) (body ++ []) (drop (size_at b) b)
    ∙ ap (λ (x : List ℕ). (to_be_bytes w32 (length body + 8) ++ type) ++ (x ++ drop (size_at b) b)) (append-nil body)
    ∙ ap (λ (x : List ℕ). (to_be_bytes w32 (length body + 8) ++ type) ++ (body ++ x)) rest
    ∙ ap (λ (x : List ℕ). (to_be_bytes w32 (length body + 8) ++ type) ++ x) (take-append-drop (size_at b - 8) (drop 8 b))
    ∙ append_assoc (to_be_bytes w32 (length body + 8)) type (drop 8 b)
    ∙ ap (λ (x : List ℕ). to_be_bytes w32 (length body + 8) ++ (type ++ x)) (sym (Rattle.std.proofs.lemmas.List.drop-drop 4 4 b))
    ∙ ap (λ (x : List ℕ). to_be_bytes w32 (length body + 8) ++ x) (take-append-drop 4 (drop 4 b))
    ∙ ap (λ (x : List ℕ). x ++ drop 4 b) size ∙ take-append-drop 4 b

-- what an atom at the front is
pub record IsAtom (c : Chunk) : Type 0 where
  pub is : c ≡ atom c.id c.body
  pub four : length c.id ≡ 4
  pub bytes : IsBytes c.body
  pub letters : IsBytes c.id

pub front_atom : (b : List ℕ) → IsBytes b → stands_at b ≡ true → IsAtom (atom_at b)
front_atom b h st =
    let s = stands b st in
    record {
      is = refl;
      four = length-take-le 4 (drop 4 b) (omega (arith, s.0, s.1, length-drop 4 b));
      bytes = IsBytes-take (size_at b - 8) (drop 8 b) (IsBytes-drop 8 b h);
      letters = IsBytes-take 4 (drop 4 b) (IsBytes-drop 4 b h);
    }

module _ {A : Type 0} (g : Chunk → Option A) (f : A → List ℕ) (one : (c : Chunk) (x : A) → IsAtom c → g c ≡ Some x → f x ≡ spell c) where
  back : (k : ℕ) (b : List ℕ) (xs : List A) → length b ≤ k → IsBytes b → each g b ≡ Some xs → flat_map f xs ≡ b
  back k [] xs le h e = let none : xs ≡ [] = ap (λ (o : Option (List A)). elim o [ Some ys ↦ ys | None ↦ [] ]) (sym e ∙ each_none g) in ap (flat_map f) none
  back zero (y ∷ b) xs le h e = absurd (omega arith)
  back (suc k) (y ∷ b) xs le h e = go (stands_at (y ∷ b)) refl (λ us ll i. back k (drop (size_at (y ∷ b)) (y ∷ b)) us ll (IsBytes-drop (size_at (y ∷ b)) (y ∷ b) h) i)
    where
      more : (o : Option A) → g (atom_at (y ∷ b)) ≡ o → (p : Option (List A)) → each g (drop (size_at (y ∷ b)) (y ∷ b)) ≡ p → and_others o p ≡ Some xs → stands_at (y ∷ b) ≡ true
          → ((us : List A) → length (drop (size_at (y ∷ b)) (y ∷ b)) ≤ k → each g (drop (size_at (y ∷ b)) (y ∷ b)) ≡ Some us → flat_map f us ≡ drop (size_at (y ∷ b)) (y ∷ b)) → flat_map f xs ≡ y ∷ b
      more None i p j e st again = absurd cc
      more (Some x) i None j e st again = absurd cc
      more (Some x) i (Some us) j e st again =
          let s = stands (y ∷ b) st in
          let same : xs ≡ x ∷ us = ap (λ (o : Option (List A)). elim o [ Some ys ↦ ys | None ↦ [] ]) (sym e) in
          let first = one (atom_at (y ∷ b)) x (front_atom (y ∷ b) h st) i in
          let others = again us (omega (arith, s.0, length-drop (size_at (y ∷ b)) (y ∷ b))) j in
          ap (flat_map f) same ∙ ap (λ (z : List ℕ). z ++ flat_map f us) first ∙ ap (λ (z : List ℕ). spell (atom_at (y ∷ b)) ++ z) others ∙ atom_back (y ∷ b) h st

      go : (t : Bool) → stands_at (y ∷ b) ≡ t → ((us : List A) → length (drop (size_at (y ∷ b)) (y ∷ b)) ≤ k → each g (drop (size_at (y ∷ b)) (y ∷ b)) ≡ Some us → flat_map f us ≡ drop (size_at (y ∷ b)) (y ∷ b)) → flat_map f xs ≡ y ∷ b
      go true st again = more (g (atom_at (y ∷ b))) refl (each g (drop (size_at (y ∷ b)) (y ∷ b))) refl (sym (each_more g (y ∷ b) (omega arith) st) ∙ e) st again
      go false st again = absurd (let no = sym e ∙ each_cut g (y ∷ b) (omega arith) st in cc)

  -- what was read is spelled as it stood
  pub spelled_back : (b : List ℕ) (xs : List A) → IsBytes b → each g b ≡ Some xs → flat_map f xs ≡ b
  spelled_back b xs h e = back (length b) b xs (omega arith) h e

-- what is read of each atom has a property, where each that is read has it
module _ {A : Type 0} (g : Chunk → Option A) (P : A → Type 0) (one : (c : Chunk) (x : A) → IsAtom c → g c ≡ Some x → P x) where
  have : (k : ℕ) (b : List ℕ) (xs : List A) → length b ≤ k → IsBytes b → each g b ≡ Some xs → AllByRecursion P xs
  have k [] xs le h e = subst (AllByRecursion P) (ap (λ (o : Option (List A)). elim o [ Some ys ↦ ys | None ↦ [] ]) (sym (each_none g) ∙ e)) tt
  have zero (y ∷ b) xs le h e = absurd (omega arith)
  have (suc k) (y ∷ b) xs le h e = go (stands_at (y ∷ b)) refl (λ us ll i. have k (drop (size_at (y ∷ b)) (y ∷ b)) us ll (IsBytes-drop (size_at (y ∷ b)) (y ∷ b) h) i)
    where
      more : (o : Option A) → g (atom_at (y ∷ b)) ≡ o → (p : Option (List A)) → each g (drop (size_at (y ∷ b)) (y ∷ b)) ≡ p → and_others o p ≡ Some xs → stands_at (y ∷ b) ≡ true
          → ((us : List A) → length (drop (size_at (y ∷ b)) (y ∷ b)) ≤ k → each g (drop (size_at (y ∷ b)) (y ∷ b)) ≡ Some us → AllByRecursion P us) → AllByRecursion P xs
      more None i p j e st again = absurd cc
      more (Some x) i None j e st again = absurd cc
      more (Some x) i (Some us) j e st again =
          let s = stands (y ∷ b) st in
          let same : x ∷ us ≡ xs = ap (λ (o : Option (List A)). elim o [ Some ys ↦ ys | None ↦ [] ]) e in
          subst (AllByRecursion P) same (one (atom_at (y ∷ b)) x (front_atom (y ∷ b) h st) i, again us (omega (arith, s.0, length-drop (size_at (y ∷ b)) (y ∷ b))) j)

      go : (t : Bool) → stands_at (y ∷ b) ≡ t → ((us : List A) → length (drop (size_at (y ∷ b)) (y ∷ b)) ≤ k → each g (drop (size_at (y ∷ b)) (y ∷ b)) ≡ Some us → AllByRecursion P us) → AllByRecursion P xs
      go true st again = more (g (atom_at (y ∷ b))) refl (each g (drop (size_at (y ∷ b)) (y ∷ b))) refl (sym (each_more g (y ∷ b) (omega arith) st) ∙ e) st again
      go false st again = absurd (let no = sym e ∙ each_cut g (y ∷ b) (omega arith) st in cc)

  pub all_have : (b : List ℕ) (xs : List A) → IsBytes b → each g b ≡ Some xs → AllByRecursion P xs
  all_have b xs h e = have (length b) b xs (omega arith) h e
