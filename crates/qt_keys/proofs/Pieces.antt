-- Pieces of bytes, one after the other, and lists that are made of lists.
use Rattle.std.proofs.Common.{◌≡◌, ℕ, zero, suc, ◌+◌, ◌<◌, ◌≤◌, List, [], ◌∷◌, ◌++◌, length, map, drop, get_or, refl, sym, ap, ◌∙◌, append_assoc, arith, length-append}
use Rattle.std.specs.List.{flat_map}
use Rattle.std.proofs.lemmas.List.{append-nil, at_drop_all, at_drop_more}
use Rattle.container_model.specs.Atoms.{atom}
use Rattle.container_model.specs.Chunk.{Chunk, header_bytes, short, spell, spell_all}

module _ {A B : Type 0} (f : A → List B) where
  abbrev pub from : ℕ → List A → List B
  from k xs = flat_map f (drop k xs)

  pub next : (xs : List A) (k : ℕ) (x : A) → x ≡ get_or xs k x → k < length xs → from k xs ≡ f x ++ from (k + 1) xs
  next xs k x is lt = at_drop_more (flat_map f) xs k x lt ∙ ap (λ (y : A). f y ++ from (k + 1) xs) (sym is)

  pub put_next : (xs : List A) (k : ℕ) (x : A) (done new whole : List B) → x ≡ get_or xs k x → k < length xs → new ≡ done ++ f x → done ++ from k xs ≡ whole → new ++ from (k + 1) xs ≡ whole
  put_next xs k x done new whole is lt put so_far =
      ap (λ (b : List B). b ++ from (k + 1) xs) put ∙ append_assoc done (f x) (from (k + 1) xs) ∙ ap (λ (b : List B). done ++ b) (sym (next xs k x is lt)) ∙ so_far

  pub put_end : (xs : List A) (k : ℕ) (done whole : List B) → length xs ≤ k → done ++ from k xs ≡ whole → done ≡ whole
  put_end xs k done whole past so_far = sym (append-nil done) ∙ ap (λ (b : List B). done ++ b) (sym (at_drop_all (flat_map f) xs k past)) ∙ so_far

  -- no piece is longer than all together
  pub one_below : (xs : List A) (k : ℕ) (d x : A) → x ≡ get_or xs k d → k < length xs → length (f x) ≤ length (flat_map f xs)
  one_below [] k d x is lt = absurd (omega arith)
  one_below (y ∷ ys) zero d x is lt = let e : length (f x) ≡ length (f y) = ap (λ (z : A). length (f z)) is in omega (arith, e, length-append (f y) (flat_map f ys))
  one_below (y ∷ ys) (suc k) d x is lt = omega (arith, one_below ys k d x is (omega arith), length-append (f y) (flat_map f ys))

pub spelled_pieces : {A : Type 0} (g : A → Chunk) (xs : List A) → spell_all (map g xs) ≡ flat_map (λ x. spell (g x)) xs
spelled_pieces g [] = refl
spelled_pieces g (x ∷ xs) = ap (λ (b : List ℕ). spell (g x) ++ b) (spelled_pieces g xs)

-- an atom is no shorter than its body
pub body_below : (id body : List ℕ) → length body ≤ length (spell (atom id body))
body_below id body = omega (arith, length-append (header_bytes short id (length body)) (body ++ []), length-append body [])

-- there are no more atoms than bytes
pub count_below : {A : Type 0} (g : A → Chunk) (xs : List A) → length xs ≤ length (spell_all (map g xs))
count_below g [] = omega arith
count_below g (x ∷ xs) = omega (arith, count_below g xs, length-append (spell (g x)) (spell_all (map g xs)), length-append (spell (g x)) [], Rattle.container_model.proofs.Codec.as_many (g x ∷ []))
