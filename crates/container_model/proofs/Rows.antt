-- A table whose numbers are changed has as many bytes, the changed numbers, and the same bytes behind them.
use Rattle.std.proofs.Common.{◌≡◌, ℕ, zero, suc, ◌+◌, ◌*◌, ◌^◌, ◌<◌, ◌≤◌, Bool, true, false, ltb, List, [], ◌∷◌, ◌++◌, length, map, take, drop, refl, sym, ap, ◌∙◌, append_assoc, arith}
use Rattle.std.specs.List.{AllByRecursion}
use Rattle.std.proofs.lemmas.Bool.{ltb-false, le-ltb}
use Rattle.std.proofs.lemmas.Nat.{be_bytes_4, be_bytes_8, from_be_bytes-to_be_bytes_4, from_be_bytes-to_be_bytes_8, le_bytes_2, le_bytes_4, le_bytes_8, from_le_bytes-to_le_bytes_2, from_le_bytes-to_le_bytes_4, from_le_bytes-to_le_bytes_8}
use Rattle.std.proofs.lemmas.List.{length-append, length-take, length-drop, take_at, drop_at, take-append-drop, drop-drop}
use Rattle.container_model.specs.Rows.{Width, le16, le32, le64, be32, be64, numbers, spelled, changed_by, changed, field, with_field}
use Rattle.container_model.proofs.Codec.{IsBytes, IsBytes-drop}
use Rattle.container_model.proofs.Fronts.{IsBytes-take}

-- Numbers of a width are spelled in so many bytes, those below a bound are read as they were, and bytes are the spelling of the number read from them.
pub record Spells (w : Width) (bound : ℕ) : Type 0 where
  pub put_len : (n : ℕ) → length (w.put n) ≡ w.bytes
  pub get_put : (n : ℕ) → n < bound → w.get (w.put n) ≡ n
  pub put_get : (b : List ℕ) → length b ≡ w.bytes → IsBytes b → w.put (w.get b) ≡ b

pub le16_spells : Spells le16 (2 ^ 16)
le16_spells = record { put_len = λ n. refl; get_put = λ n lt. from_le_bytes-to_le_bytes_2 n lt; put_get = λ b l h. le_bytes_2 b _ l h refl }

pub le32_spells : Spells le32 (2 ^ 32)
le32_spells = record { put_len = λ n. refl; get_put = λ n lt. from_le_bytes-to_le_bytes_4 n lt; put_get = λ b l h. le_bytes_4 b _ l h refl }

pub le64_spells : Spells le64 (2 ^ 64)
le64_spells = record { put_len = λ n. refl; get_put = λ n lt. from_le_bytes-to_le_bytes_8 n lt; put_get = λ b l h. le_bytes_8 b _ l h refl }

pub be32_spells : Spells be32 (2 ^ 32)
be32_spells = record { put_len = λ n. refl; get_put = λ n lt. from_be_bytes-to_be_bytes_4 n lt; put_get = λ b l h. be_bytes_4 b _ l h refl }

pub be64_spells : Spells be64 (2 ^ 64)
be64_spells = record { put_len = λ n. refl; get_put = λ n lt. from_be_bytes-to_be_bytes_8 n lt; put_get = λ b l h. be_bytes_8 b _ l h refl }

module _ (w : Width) (bound : ℕ) (sp : Spells w bound) (f : ℕ → ℕ) where
  pub changed_len : (k : ℕ) (b : List ℕ) → length (changed w f k b) ≡ length b
  changed_len zero b = refl
  changed_len (suc k) b = go (ltb (length b) w.bytes) refl (changed_len k (drop w.bytes b))
    where
      go : (t : Bool) → ltb (length b) w.bytes ≡ t → length (changed w f k (drop w.bytes b)) ≡ length (drop w.bytes b) → length (changed_by w f b (changed w f k (drop w.bytes b)) t) ≡ length b
      go true e again = refl
      go false e again = omega (arith, ltb-false _ _ e, again, length-drop w.bytes b, length-append (w.put (f (w.get (take w.bytes b)))) (changed w f k (drop w.bytes b)), sp.put_len (f (w.get (take w.bytes b))))

  -- the bytes behind the numbers stay
  pub changed_behind : (k : ℕ) (b : List ℕ) → drop (w.bytes * k) (changed w f k b) ≡ drop (w.bytes * k) b
  changed_behind zero b = refl
  changed_behind (suc k) b = go (ltb (length b) w.bytes) refl (changed_behind k (drop w.bytes b))
    where
      step : w.bytes * suc k ≡ w.bytes + w.bytes * k
      step = omega arith

      go : (t : Bool) → ltb (length b) w.bytes ≡ t → drop (w.bytes * k) (changed w f k (drop w.bytes b)) ≡ drop (w.bytes * k) (drop w.bytes b)
          → drop (w.bytes * suc k) (changed_by w f b (changed w f k (drop w.bytes b)) t) ≡ drop (w.bytes * suc k) b
      go true e again = refl
      go false e again =
          let n = w.put (f (w.get (take w.bytes b))) in
          let x = changed w f k (drop w.bytes b) in
          ap (λ (j : ℕ). drop j (n ++ x)) step ∙ sym (drop-drop (w.bytes * k) w.bytes (n ++ x)) ∙ ap (drop (w.bytes * k)) (drop_at n x w.bytes (sp.put_len (f (w.get (take w.bytes b)))))
          ∙ again ∙ drop-drop (w.bytes * k) w.bytes b ∙ ap (λ (j : ℕ). drop j b) (sym step)

  -- the changed numbers are read
  pub changed_numbers : (k : ℕ) (b : List ℕ) → w.bytes * k ≤ length b → AllByRecursion (λ p. f p < bound) (numbers w k b) → numbers w k (changed w f k b) ≡ map f (numbers w k b)
  changed_numbers zero b le h = refl
  changed_numbers (suc k) b le h =
      let n = f (w.get (take w.bytes b)) in
      let x = changed w f k (drop w.bytes b) in
      let step : w.bytes * suc k ≡ w.bytes + w.bytes * k = omega arith in
      let long : ltb (length b) w.bytes ≡ false = le-ltb _ _ (omega (arith, step)) in
      let again = changed_numbers k (drop w.bytes b) (omega (arith, step, length-drop w.bytes b)) h.1 in
      let one : numbers w (suc k) (w.put n ++ x) ≡ n ∷ map f (numbers w k (drop w.bytes b)) = rw (take_at (w.put n) x w.bytes (sp.put_len n), drop_at (w.put n) x w.bytes (sp.put_len n), sp.get_put n h.0, again) refl in
      ap (λ (t : Bool). numbers w (suc k) (changed_by w f b x t)) long ∙ one

  -- the changed numbers are spelled, and the bytes behind them follow
  pub changed_spelled : (k : ℕ) (b : List ℕ) → w.bytes * k ≤ length b → changed w f k b ≡ spelled w (map f (numbers w k b)) ++ drop (w.bytes * k) b
  changed_spelled zero b le = let z : w.bytes * 0 ≡ 0 = omega arith in rw z refl
  changed_spelled (suc k) b le =
      let step : w.bytes * suc k ≡ w.bytes + w.bytes * k = omega arith in
      let n = w.put (f (w.get (take w.bytes b))) in
      let ns = spelled w (map f (numbers w k (drop w.bytes b))) in
      let long : ltb (length b) w.bytes ≡ false = le-ltb _ _ (omega (arith, step)) in
      let again = changed_spelled k (drop w.bytes b) (omega (arith, step, length-drop w.bytes b)) in
      ap (changed_by w f b (changed w f k (drop w.bytes b))) long ∙ ap (λ (x : List ℕ). n ++ x) again ∙ sym (append_assoc n ns (drop (w.bytes * k) (drop w.bytes b)))
      ∙ ap (λ (x : List ℕ). (n ++ ns) ++ x) (drop-drop (w.bytes * k) w.bytes b ∙ ap (λ (j : ℕ). drop j b) (sym step))

  pub spelled_len : (k : ℕ) (b : List ℕ) → length (spelled w (map f (numbers w k b))) ≡ w.bytes * k
  spelled_len zero b = omega arith
  spelled_len (suc k) b =
      let step : w.bytes * suc k ≡ w.bytes + w.bytes * k = omega arith in
      omega (arith, step, sp.put_len (f (w.get (take w.bytes b))), spelled_len k (drop w.bytes b), length-append (w.put (f (w.get (take w.bytes b)))) (spelled w (map f (numbers w k (drop w.bytes b)))))

  -- where none of the numbers changes, no byte does
  pub changed_same : (k : ℕ) (b : List ℕ) → AllByRecursion (λ p. f p ≡ p) (numbers w k b) → IsBytes b → changed w f k b ≡ b
  changed_same zero b same bytes = refl
  changed_same (suc k) b same bytes = go (ltb (length b) w.bytes) refl (changed_same k (drop w.bytes b) same.1 (IsBytes-drop w.bytes b bytes))
    where
      go : (t : Bool) → ltb (length b) w.bytes ≡ t → changed w f k (drop w.bytes b) ≡ drop w.bytes b → changed_by w f b (changed w f k (drop w.bytes b)) t ≡ b
      go true e again = refl
      go false e again =
          let len : length (take w.bytes b) ≡ w.bytes = omega (arith, ltb-false _ _ e, length-take w.bytes b) in
          ap (λ (x : List ℕ). w.put (f (w.get (take w.bytes b))) ++ x) again
          ∙ ap (λ (n : ℕ). w.put n ++ drop w.bytes b) same.0
          ∙ ap (λ (x : List ℕ). x ++ drop w.bytes b) (sp.put_get (take w.bytes b) len (IsBytes-take w.bytes b bytes)) ∙ take-append-drop w.bytes b

  pub changed_none : ((p : ℕ) → f p ≡ p) → (k : ℕ) (b : List ℕ) → IsBytes b → changed w f k b ≡ b
  changed_none same k b bytes = changed_same k b (every (numbers w k b)) bytes
    where
      every : (ns : List ℕ) → AllByRecursion (λ p. f p ≡ p) ns
      every [] = tt
      every (n ∷ ns) = (same n, every ns)

-- ---- a number in a longer row

module _ (w : Width) (bound : ℕ) (sp : Spells w bound) where
  pub field_len : (at n : ℕ) (row : List ℕ) → at + w.bytes ≤ length row → length (with_field w at n row) ≡ length row
  field_len at n row room =
      omega (arith, sp.put_len n, length-append (take at row) (w.put n ++ drop w.bytes (drop at row)), length-append (w.put n) (drop w.bytes (drop at row)), length-take at row, length-drop w.bytes (drop at row), length-drop at row)

  -- the number that was written is read
  pub field_read : (at n : ℕ) (row : List ℕ) → at + w.bytes ≤ length row → n < bound → field w at (with_field w at n row) ≡ n
  field_read at n row room lt =
      let len : length (take at row) ≡ at = omega (arith, length-take at row) in
      ap (λ (b : List ℕ). w.get (take w.bytes b)) (drop_at (take at row) (w.put n ++ drop w.bytes (drop at row)) at len)
      ∙ ap w.get (take_at (w.put n) (drop w.bytes (drop at row)) w.bytes (sp.put_len n)) ∙ sp.get_put n lt

  -- the bytes before it and behind it stay
  pub field_before : (at n : ℕ) (row : List ℕ) → at + w.bytes ≤ length row → take at (with_field w at n row) ≡ take at row
  field_before at n row room = take_at (take at row) (w.put n ++ drop w.bytes (drop at row)) at (omega (arith, length-take at row))

  pub field_behind : (at n : ℕ) (row : List ℕ) → at + w.bytes ≤ length row → drop w.bytes (drop at (with_field w at n row)) ≡ drop w.bytes (drop at row)
  field_behind at n row room =
      ap (drop w.bytes) (drop_at (take at row) (w.put n ++ drop w.bytes (drop at row)) at (omega (arith, length-take at row))) ∙ drop_at (w.put n) (drop w.bytes (drop at row)) w.bytes (sp.put_len n)
