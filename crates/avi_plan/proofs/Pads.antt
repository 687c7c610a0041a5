-- The pad of the first form, before and after an edit.
use Rattle.std.proofs.Common.{◌≡◌, ◌∙◌, ◌⊎◌, ℕ, ◌+◌, ◌%◌, ◌≤◌, ◌<◌, Bool, true, false, cond, eqb, ltb, List, [], ◌∷◌, ◌++◌, length, take, drop, get_or, refl, sym, ap, subst, arith, inl, inr, append_assoc, length-append}
use Rattle.std.specs.Prelude.{◌&&◌, not, codes}
use Rattle.std.specs.Int.{w32, to_le_bytes}
use Rattle.std.specs.Str.{bytes_eq}
use Rattle.std.proofs.lemmas.Bool.{cases_lt, eqb-true, eqb-false, lt-ltb, le-ltb, cond-false}
use Rattle.std.proofs.lemmas.List.{drop_at, take_at, nil_from_length}
use Rattle.me_bytes.specs.Bytes.{IsBytes}
use Rattle.part_tree.proofs.Places.{bytes_same}
use Rattle.container_model.specs.Chunk.{spell}
use Rattle.container_model.specs.Items.{is_nil}
use Rattle.carrier_model.specs.RiffForm.{new_pad}
use Rattle.avi_model.specs.Avi.{Avi, avi_of, behind, form_of, inner}
use Rattle.avi_model.proofs.Forms.{file_read}
use Rattle.avi_model.proofs.Stands.{is_file}
use Rattle.avi_plan.specs.Form.{IsFormOf, keeps_pad, pad_after, pad_now}
use Rattle.avi_plan.specs.declared.form.FormAt.{FormAt}

-- ---- numbers

pad_number : (n len k t : ℕ) → len ≡ 8 + n + (k + t) → (k ≡ n % 2) ⊎ ((k ≤ n % 2) × (t ≡ 0)) → k ≡ cond (eqb (n % 2) 1 && ltb (8 + n) len) 1 0
pad_number n len k t e h = go (eqb (n % 2) 1) refl (cases_lt (8 + n) len) h
  where
    go : (u : Bool) → eqb (n % 2) 1 ≡ u → (8 + n < len) ⊎ (len ≤ 8 + n) → (k ≡ n % 2) ⊎ ((k ≤ n % 2) × (t ≡ 0)) → k ≡ cond (u && ltb (8 + n) len) 1 0
    go true i (inl lt) (inl p) = let odd = eqb-true (n % 2) 1 i in omega (arith, odd, p) ∙ ap (λ (v : Bool). cond {A = ℕ} v 1 0) (sym (lt-ltb (8 + n) len lt))
    go true i (inl lt) (inr p) = let odd = eqb-true (n % 2) 1 i in omega (arith, odd, p.0, p.1, e, lt) ∙ ap (λ (v : Bool). cond {A = ℕ} v 1 0) (sym (lt-ltb (8 + n) len lt))
    go true i (inr le) p = omega (arith, e, le) ∙ ap (λ (v : Bool). cond {A = ℕ} v 1 0) (sym (le-ltb (8 + n) len le))
    go false i c (inl p) = let even = eqb-false (n % 2) 1 i in omega (arith, p, even)
    go false i c (inr p) = let even = eqb-false (n % 2) 1 i in omega (arith, p.0, even)

some_behind : (x : List ℕ) (m len : ℕ) → len ≡ m + length x → not (is_nil x) ≡ ltb m len
some_behind [] m len e = sym (le-ltb m len (omega (arith, e)))
some_behind (y ∷ x) m len e = sym (lt-ltb m len (omega (arith, e)))

one_byte : (t : Bool) (s : Bool) → cond {A = List ℕ} (t && s) (0 ∷ []) [] ≡ cond (eqb (cond (t && s) 1 0) 1) (0 ∷ []) []
one_byte true true = refl
one_byte true false = refl
one_byte false s = refl

length_byte : (k : ℕ) → k ≤ 1 → length (cond {A = List ℕ} (eqb k 1) (0 ∷ []) []) ≡ k
length_byte k le = go (eqb k 1) refl
  where
    go : (t : Bool) → eqb k 1 ≡ t → length (cond {A = List ℕ} t (0 ∷ []) []) ≡ k
    go true e = sym (eqb-true k 1 e)
    go false e = let no = eqb-false k 1 e in omega (arith, le, no)

-- ---- of a file

module _ (b : List ℕ) (bytes : IsBytes b) (f : FormAt) (of : IsFormOf b f) where
  a : Avi
  a = avi_of b

  pub file_long : length b ≡ 8 + length (inner (avi_of b).children (avi_of b).left) + (length (avi_of b).pad + length (behind (avi_of b)))
  file_long = omega (arith, ap length (is_file b bytes of.supported), length-append (spell (form_of (avi_of b))) (behind (avi_of b)), length-append (inner (avi_of b).children (avi_of b).left) (avi_of b).pad)

  -- the pad that is there
  pub pad_is : length (avi_of b).pad ≡ pad_now f
  pad_is =
      let r = (file_read b bytes of.supported).readable in
      pad_number f.size f.len (length (avi_of b).pad) (length (behind (avi_of b))) (omega (arith, of.len, of.size, file_long)) (by r.form_pad)
    where
      by : (length (avi_of b).pad ≡ length (inner (avi_of b).children (avi_of b).left) % 2) ⊎ ((length (avi_of b).pad ≤ length (inner (avi_of b).children (avi_of b).left) % 2) × (behind (avi_of b) ≡ []))
          → (length (avi_of b).pad ≡ f.size % 2) ⊎ ((length (avi_of b).pad ≤ f.size % 2) × (length (behind (avi_of b)) ≡ 0))
      by (inl p) = inl (p ∙ ap (λ (k : ℕ). k % 2) (sym of.size))
      by (inr p) = inr (subst (λ (k : ℕ). length (avi_of b).pad ≤ k % 2) (sym of.size) p.0, ap (λ (x : List ℕ). length x) p.1)

  few : (t : Bool) → cond {A = ℕ} t 1 0 ≤ 1
  few true = omega arith
  few false = omega arith

  pub now_few : pad_now f ≤ 1
  now_few = few (eqb (f.size % 2) 1 && ltb (8 + f.size) f.len)

  -- the pad that is to be there with another size
  pub new_zeros : (n : ℕ) → (n ≡ f.size → ⊥) → new_pad f.size n (avi_of b).pad (behind (avi_of b)) ≡ cond (eqb (pad_after f n) 1) (0 ∷ []) []
  new_zeros n ne =
      let t = eqb (n % 2) 1 in
      let s = ltb (8 + f.size + pad_now f) f.len in
      let unlike : eqb f.size n ≡ false = no (eqb f.size n) refl in
      let other : eqb n f.size ≡ false = no2 (eqb n f.size) refl in
      cond-false (eqb f.size n) (avi_of b).pad (cond (t && not (is_nil (behind (avi_of b)))) (0 ∷ []) []) unlike
      ∙ ap (λ (u : Bool). cond {A = List ℕ} (t && u) (0 ∷ []) []) (some_behind (behind (avi_of b)) (8 + f.size + pad_now f) f.len (omega (arith, of.len, of.size, file_long, pad_is)))
      ∙ one_byte t s
      ∙ ap (λ (k : ℕ). cond {A = List ℕ} (eqb k 1) (0 ∷ []) []) (sym (cond-false (eqb n f.size) (pad_now f) (cond (t && s) 1 0) other))
    where
      no : (u : Bool) → eqb f.size n ≡ u → u ≡ false
      no true e = absurd (ne (sym (eqb-true f.size n e)))
      no false e = refl

      no2 : (u : Bool) → eqb n f.size ≡ u → u ≡ false
      no2 true e = absurd (ne (eqb-true n f.size e))
      no2 false e = refl

  pub after_few : (n : ℕ) → pad_after f n ≤ 1
  after_few n = go (eqb n f.size)
    where
      go : (t : Bool) → cond t (pad_now f) (cond (eqb (n % 2) 1 && ltb (8 + f.size + pad_now f) f.len) 1 0) ≤ 1
      go true = now_few
      go false = few (eqb (n % 2) 1 && ltb (8 + f.size + pad_now f) f.len)

  new_long : (n : ℕ) → (n ≡ f.size → ⊥) → length (new_pad f.size n (avi_of b).pad (behind (avi_of b))) ≡ pad_after f n
  new_long n ne = ap (λ (x : List ℕ). length x) (new_zeros n ne) ∙ length_byte (pad_after f n) (after_few n)

  -- whether it is the same bytes
  pub unlike_pads : (n : ℕ) → (n ≡ f.size → ⊥) → (pad_now f ≡ pad_after f n → ⊥) → false ≡ keeps_pad b f n
  unlike_pads n ne unlike = go (keeps_pad b f n) refl
    where
      go : (t : Bool) → keeps_pad b f n ≡ t → false ≡ t
      go false e = refl
      go true e = absurd (unlike (sym pad_is ∙ ap (λ (x : List ℕ). length x) (bytes_same (avi_of b).pad (new_pad f.size n (avi_of b).pad (behind (avi_of b))) e) ∙ new_long n ne))

  pub no_pads : (n : ℕ) → (n ≡ f.size → ⊥) → pad_now f ≡ 0 → pad_now f ≡ pad_after f n → true ≡ keeps_pad b f n
  no_pads n ne none same =
      let old : (avi_of b).pad ≡ [] = nil_from_length (avi_of b).pad (pad_is ∙ none) in
      let new : new_pad f.size n (avi_of b).pad (behind (avi_of b)) ≡ [] = nil_from_length (new_pad f.size n (avi_of b).pad (behind (avi_of b))) (new_long n ne ∙ sym same ∙ none) in
      sym (ap (λ (x : List ℕ). bytes_eq x (new_pad f.size n (avi_of b).pad (behind (avi_of b)))) old ∙ ap (bytes_eq []) new)

  -- where the pad stands
  pub pad_stands : take (pad_now f) (drop (8 + f.size) b) ≡ (avi_of b).pad
  pad_stands =
      let head = codes "RIFF" ++ to_le_bytes w32 (length (inner (avi_of b).children (avi_of b).left)) in
      let front = head ++ inner (avi_of b).children (avi_of b).left in
      let rest = (avi_of b).pad ++ behind (avi_of b) in
      let split : b ≡ front ++ rest = is_file b bytes of.supported ∙ regroup head (inner (avi_of b).children (avi_of b).left) (avi_of b).pad (behind (avi_of b)) in
      let size : length front ≡ 8 + f.size = omega (arith, of.size, length-append head (inner (avi_of b).children (avi_of b).left)) in
      ap (λ (x : List ℕ). take (pad_now f) (drop (8 + f.size) x)) split ∙ ap (take (pad_now f)) (drop_at front rest (8 + f.size) size) ∙ take_at (avi_of b).pad (behind (avi_of b)) (pad_now f) pad_is
    where
      regroup : (h i p t : List ℕ) → (h ++ (i ++ p)) ++ t ≡ (h ++ i) ++ (p ++ t)
      regroup h i p t = simp append_assoc

  pub one_pad : (n : ℕ) (page : List ℕ) → (n ≡ f.size → ⊥) → (pad_now f ≡ 0 → ⊥) → pad_now f ≡ pad_after f n → page ≡ take 1 (drop (8 + f.size) b) → eqb (get_or page 0 0) 0 ≡ keeps_pad b f n
  one_pad n page ne some same is =
      let one : pad_now f ≡ 1 = omega (arith, now_few, some) in
      let old : page ≡ (avi_of b).pad = is ∙ ap (λ (k : ℕ). take k (drop (8 + f.size) b)) (sym one) ∙ pad_stands in
      let new : new_pad f.size n (avi_of b).pad (behind (avi_of b)) ≡ 0 ∷ [] =
      new_zeros n ne ∙ ap (λ (k : ℕ). cond {A = List ℕ} (eqb k 1) (0 ∷ []) []) (sym same ∙ one)
      in
      by page (ap (λ (x : List ℕ). length x) old ∙ pad_is ∙ one) ∙ ap (λ (x : List ℕ). bytes_eq x (0 ∷ [])) old ∙ ap (bytes_eq (avi_of b).pad) (sym new)
    where
      last : (t : Bool) → t ≡ (t && true)
      last true = refl
      last false = refl

      by : (x : List ℕ) → length x ≡ 1 → eqb (get_or x 0 0) 0 ≡ bytes_eq x (0 ∷ [])
      by [] e = absurd (omega (arith, e))
      by (y ∷ []) e = last (eqb y 0)
      by (y ∷ (z ∷ x)) e = absurd (omega (arith, e))
