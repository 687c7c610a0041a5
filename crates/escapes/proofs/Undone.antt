-- Escapes are undone.
use Rattle.std.proofs.Common.{◌≡◌, ℕ, zero, suc, ◌+◌, ◌-◌, ◌*◌, ◌/◌, ◌%◌, ◌<◌, List, [], ◌∷◌, ◌++◌, length, get_or, drop, Bool, true, false, ◌==◌, refl, sym, ap, ◌∙◌, arith, inl, inr, Option, Some, None, if◌then◌else◌, nat_lt, slice_index, append_assoc, ◌&&◌, ltb-true, take, take_all, drop-drop, length-drop}
use Rattle.std.specs.Prelude.{is_some}
use Rattle.std.specs.List.{AllByRecursion}
use Rattle.std.specs.Char.{is_ascii_hexdigit, digit_value}
use Rattle.std.specs.Fmt.{digit_glyph}
use Rattle.std.proofs.lemmas.Bool.{cond-true, eqb-true, ne_eqb, and_from}
use Rattle.std.proofs.lemmas.Bool.Decides.{nat_tests}
use Rattle.bstr.specs.Utf8.{Decoded, continues, decoded, second}
use Rattle.bstr.proofs.lemmas.PieceLemmas.{Shape, decoded_by-shape}
use Rattle.escapes.specs.Escapes.{escaped_byte, escaped_from, first_byte, hex_escape, hex_named, is_hidden, joined, letters, more_letters, named, put_before, unescaped_from, wide_len}

-- ---- a letter more

-- a slice up to the end is what is left
pub slice_is : (xs : List ℕ) (k : ℕ) → take (length xs - k) (drop k xs) ≡ drop k xs
slice_is xs k = take_all (length xs - k) (drop k xs) (omega (arith, length-drop k xs))

pub rest_is : (xs : List ℕ) (k : ℕ) → drop (k + 1) xs ≡ drop 1 (take (length xs - k) (drop k xs))
rest_is xs k = sym (ap (drop 1) (slice_is xs k) ∙ drop-drop 1 k xs)

join_one : (raw : List ℕ) (byte : ℕ) (rest : Option (List ℕ)) → joined (raw ++ byte ∷ []) rest ≡ joined raw (put_before (Some byte) rest)
join_one raw byte None = refl
join_one raw byte (Some bs) = ap Some (append_assoc raw (byte ∷ []) bs)

pub read_one : (raw new text : List ℕ) (byte more n : ℕ) → 0 < length text → n ≡ 0 → new ≡ raw ++ byte ∷ [] → Some byte ≡ first_byte text → more ≡ more_letters text
    → joined new (unescaped_from more (drop 1 text)) ≡ joined raw (unescaped_from n text)
read_one raw new [] byte more n some none put is more_is = absurd (omega (arith, some))
read_one raw new (x ∷ text) byte more n some none put is more_is =
    ap (λ (bs : List ℕ). joined bs (unescaped_from more text)) put ∙ join_one raw byte (unescaped_from more text)
    ∙ ap (λ (k : ℕ). joined raw (put_before (Some byte) (unescaped_from k text))) more_is
    ∙ ap (λ (o : Option ℕ). joined raw (put_before o (unescaped_from (more_letters (x ∷ text)) text))) is
    ∙ ap (λ (k : ℕ). joined raw (unescaped_from k (x ∷ text))) (sym none)

-- ---- bytes of wide characters

abbrev wide_of : Decoded → ℕ
wide_of r = if is_some r.char && nat_lt 1 r.size then r.size else 0

wide_is : (bs : List ℕ) → wide_len bs ≡ wide_of (decoded bs)
unfolding wide_len
wide_is bs = refl

second_high : (b c : ℕ) → second b c ≡ true → 127 < c
second_high b c h = grind (arith, nat_tests)

continues_high : (c : ℕ) → continues c ≡ true → 127 < c
continues_high c h = grind (arith, nat_tests)

none_below : (r : Decoded) (j : ℕ) (A : Type 0) → wide_of r ≡ 0 → j < wide_of r → A
none_below r j A none lt = absurd (omega (arith, none, lt))

two : (b c d e j : ℕ) → 127 < b → 127 < c → j < 2 → 127 < get_or (b ∷ c ∷ d ∷ e ∷ []) j 0
two b c d e zero hb hc lt = hb
two b c d e (suc zero) hb hc lt = hc
two b c d e (suc (suc j)) hb hc lt = absurd (omega (arith, lt))

three : (b c d e j : ℕ) → 127 < b → 127 < c → 127 < d → j < 3 → 127 < get_or (b ∷ c ∷ d ∷ e ∷ []) j 0
three b c d e zero hb hc hd lt = hb
three b c d e (suc zero) hb hc hd lt = hc
three b c d e (suc (suc zero)) hb hc hd lt = hd
three b c d e (suc (suc (suc j))) hb hc hd lt = absurd (omega (arith, lt))

four : (b c d e j : ℕ) → 127 < b → 127 < c → 127 < d → 127 < e → j < 4 → 127 < get_or (b ∷ c ∷ d ∷ e ∷ []) j 0
four b c d e zero hb hc hd he lt = hb
four b c d e (suc zero) hb hc hd he lt = hc
four b c d e (suc (suc zero)) hb hc hd he lt = hd
four b c d e (suc (suc (suc zero))) hb hc hd he lt = he
four b c d e (suc (suc (suc (suc j)))) hb hc hd he lt = absurd (omega (arith, lt))

-- the bytes of a wide character are above ASCII
high_by : (r : Decoded) (n b c d e : ℕ) → Shape r n b c d e → (j : ℕ) → j < wide_of r → 127 < get_or (b ∷ c ∷ d ∷ e ∷ []) j 0
high_by r n b c d e (inl h) j lt = none_below r j _ (ap wide_of h.1) lt
high_by r n b c d e (inr (inl h)) j lt = none_below r j _ (ap wide_of h.2) lt
high_by r n b c d e (inr (inr (inl h))) j lt = none_below r j _ (ap wide_of h.3) lt
high_by r n b c d e (inr (inr (inr (inl h)))) j lt = none_below r j _ (ap wide_of h.2) lt
high_by r n b c d e (inr (inr (inr (inr (inl h))))) j lt = none_below r j _ (ap wide_of h.4) lt
high_by r n b c d e (inr (inr (inr (inr (inr (inl h)))))) j lt = none_below r j _ (ap wide_of h.4) lt
high_by r n b c d e (inr (inr (inr (inr (inr (inr (inl h))))))) j lt = two b c d e j (omega (arith, h.1)) (second_high b c h.3) (omega (arith, lt, ap wide_of h.4))
high_by r n b c d e (inr (inr (inr (inr (inr (inr (inr (inl h)))))))) j lt = none_below r j _ (ap wide_of h.5) lt
high_by r n b c d e (inr (inr (inr (inr (inr (inr (inr (inr (inl h))))))))) j lt = none_below r j _ (ap wide_of h.5) lt
high_by r n b c d e (inr (inr (inr (inr (inr (inr (inr (inr (inr (inl h)))))))))) j lt =
    three b c d e j (omega (arith, h.1)) (second_high b c h.3) (continues_high d h.4) (omega (arith, lt, ap wide_of h.5))
high_by r n b c d e (inr (inr (inr (inr (inr (inr (inr (inr (inr (inr (inl h))))))))))) j lt = none_below r j _ (ap wide_of h.6) lt
high_by r n b c d e (inr (inr (inr (inr (inr (inr (inr (inr (inr (inr (inr (inl h)))))))))))) j lt = none_below r j _ (ap wide_of h.6) lt
high_by r n b c d e (inr (inr (inr (inr (inr (inr (inr (inr (inr (inr (inr (inr h)))))))))))) j lt =
    four b c d e j (omega (arith, h.1)) (second_high b c h.3) (continues_high d h.4) (continues_high e h.5) (omega (arith, lt, ap wide_of h.6))

pub high : (bs : List ℕ) (j : ℕ) → j < wide_len bs → 127 < get_or bs j 0
high bs j lt = go j (high_by (decoded bs) (length bs) (slice_index bs 0) (slice_index bs 1) (slice_index bs 2) (slice_index bs 3) (decoded_by-shape (length bs) (slice_index bs 0) (slice_index bs 1) (slice_index bs 2) (slice_index bs 3)) j (omega (arith, lt, wide_is bs)))
  where
    go : (j : ℕ) → 127 < get_or (slice_index bs 0 ∷ slice_index bs 1 ∷ slice_index bs 2 ∷ slice_index bs 3 ∷ []) j 0 → 127 < get_or bs j 0
    go zero h = h
    go (suc zero) h = h
    go (suc (suc zero)) h = h
    go (suc (suc (suc zero))) h = h
    go (suc (suc (suc (suc j)))) h = absurd (omega (arith, h))

-- the first n bytes are above ASCII
abbrev pub AreHigh : ℕ → List ℕ → Type 0
AreHigh zero bs = Unit {0}
AreHigh (suc n) [] = Unit {0}
AreHigh (suc n) (b ∷ bs) = (127 < b) × AreHigh n bs

pub are_high : (n : ℕ) (bs : List ℕ) → ((j : ℕ) → j < n → 127 < get_or bs j 0) → AreHigh n bs
are_high zero bs h = tt
are_high (suc n) [] h = tt
are_high (suc n) (b ∷ bs) h = (h 0 (omega arith), are_high n bs (λ j lt. h (suc j) (omega (arith, lt))))

-- ---- a byte by itself

pub glyph_hex : (d : ℕ) → d < 16 → is_ascii_hexdigit (digit_glyph true d) ≡ true
glyph_hex zero h = refl
glyph_hex (suc zero) h = refl
glyph_hex (suc (suc zero)) h = refl
glyph_hex (suc (suc (suc zero))) h = refl
glyph_hex (suc (suc (suc (suc zero)))) h = refl
glyph_hex (suc (suc (suc (suc (suc zero))))) h = refl
glyph_hex (suc (suc (suc (suc (suc (suc zero)))))) h = refl
glyph_hex (suc (suc (suc (suc (suc (suc (suc zero))))))) h = refl
glyph_hex (suc (suc (suc (suc (suc (suc (suc (suc zero)))))))) h = refl
glyph_hex (suc (suc (suc (suc (suc (suc (suc (suc (suc zero))))))))) h = refl
glyph_hex (suc (suc (suc (suc (suc (suc (suc (suc (suc (suc zero)))))))))) h = refl
glyph_hex (suc (suc (suc (suc (suc (suc (suc (suc (suc (suc (suc zero))))))))))) h = refl
glyph_hex (suc (suc (suc (suc (suc (suc (suc (suc (suc (suc (suc (suc zero)))))))))))) h = refl
glyph_hex (suc (suc (suc (suc (suc (suc (suc (suc (suc (suc (suc (suc (suc zero))))))))))))) h = refl
glyph_hex (suc (suc (suc (suc (suc (suc (suc (suc (suc (suc (suc (suc (suc (suc zero)))))))))))))) h = refl
glyph_hex (suc (suc (suc (suc (suc (suc (suc (suc (suc (suc (suc (suc (suc (suc (suc zero))))))))))))))) h = refl
glyph_hex (suc (suc (suc (suc (suc (suc (suc (suc (suc (suc (suc (suc (suc (suc (suc (suc d)))))))))))))))) h = absurd (omega arith)

pub glyph_value : (d : ℕ) → d < 16 → digit_value (digit_glyph true d) ≡ d
glyph_value zero h = refl
glyph_value (suc zero) h = refl
glyph_value (suc (suc zero)) h = refl
glyph_value (suc (suc (suc zero))) h = refl
glyph_value (suc (suc (suc (suc zero)))) h = refl
glyph_value (suc (suc (suc (suc (suc zero))))) h = refl
glyph_value (suc (suc (suc (suc (suc (suc zero)))))) h = refl
glyph_value (suc (suc (suc (suc (suc (suc (suc zero))))))) h = refl
glyph_value (suc (suc (suc (suc (suc (suc (suc (suc zero)))))))) h = refl
glyph_value (suc (suc (suc (suc (suc (suc (suc (suc (suc zero))))))))) h = refl
glyph_value (suc (suc (suc (suc (suc (suc (suc (suc (suc (suc zero)))))))))) h = refl
glyph_value (suc (suc (suc (suc (suc (suc (suc (suc (suc (suc (suc zero))))))))))) h = refl
glyph_value (suc (suc (suc (suc (suc (suc (suc (suc (suc (suc (suc (suc zero)))))))))))) h = refl
glyph_value (suc (suc (suc (suc (suc (suc (suc (suc (suc (suc (suc (suc (suc zero))))))))))))) h = refl
glyph_value (suc (suc (suc (suc (suc (suc (suc (suc (suc (suc (suc (suc (suc (suc zero)))))))))))))) h = refl
glyph_value (suc (suc (suc (suc (suc (suc (suc (suc (suc (suc (suc (suc (suc (suc (suc zero))))))))))))))) h = refl
glyph_value (suc (suc (suc (suc (suc (suc (suc (suc (suc (suc (suc (suc (suc (suc (suc (suc d)))))))))))))))) h = absurd (omega arith)

hex_is : (b : ℕ) (text : List ℕ) → b < 256 → hex_named (digit_glyph true (b / 16) ∷ digit_glyph true (b % 16) ∷ text) ≡ Some b
hex_is b text small =
    let high : b / 16 < 16 = omega arith in
    let low : b % 16 < 16 = omega arith in
    cond-true _ _ None (and_from _ _ (glyph_hex (b / 16) high) (glyph_hex (b % 16) low))
    ∙ ap Some (ap (λ (n : ℕ). n * 16 + digit_value (digit_glyph true (b % 16))) (glyph_value (b / 16) high) ∙ ap (λ (n : ℕ). b / 16 * 16 + n) (glyph_value (b % 16) low) ∙ omega arith)

-- a letter that is no backslash is itself
plain_read : (b : ℕ) (text bs : List ℕ) → (b == 92) ≡ false → unescaped_from 0 text ≡ Some bs → unescaped_from 0 (b ∷ text) ≡ Some (b ∷ bs)
plain_read b text bs other rest =
    ap (λ (t : Bool). put_before (if t then named text else Some b) (unescaped_from (if t then letters text else 0) text)) other ∙ ap (put_before (Some b)) rest

byte_read : (b : ℕ) (text bs : List ℕ) → b < 256 → unescaped_from 0 text ≡ Some bs → unescaped_from 0 (escaped_byte b ++ text) ≡ Some (b ∷ bs)
byte_read b text bs small rest = slash (b == 92) refl
  where
    Reads : List ℕ → Type 0
    Reads letters = unescaped_from 0 (letters ++ text) ≡ Some (b ∷ bs)

    letter : (n : ℕ) → (b == n) ≡ true → Some (n ∷ bs) ≡ Some (b ∷ bs)
    letter n e = ap (λ (x : ℕ). Some (x ∷ bs)) (sym (eqb-true b n e))

    hidden : (t : Bool) → (b == 92) ≡ false → Reads (if t then hex_escape b else b ∷ [])
    hidden true other = ap (λ (o : Option ℕ). put_before o (unescaped_from 0 text)) (hex_is b text small) ∙ ap (put_before (Some b)) rest
    hidden false other = plain_read b text bs other rest

    tab : (t : Bool) → (b == 9) ≡ t → (b == 92) ≡ false → Reads (if t then 92 ∷ 116 ∷ [] else (if is_hidden b then hex_escape b else b ∷ []))
    tab true e other = ap (put_before (Some 9)) rest ∙ letter 9 e
    tab false e other = hidden (is_hidden b) other

    return : (t : Bool) → (b == 13) ≡ t → (b == 92) ≡ false → Reads (if t then 92 ∷ 114 ∷ [] else (if b == 9 then 92 ∷ 116 ∷ [] else (if is_hidden b then hex_escape b else b ∷ [])))
    return true e other = ap (put_before (Some 13)) rest ∙ letter 13 e
    return false e other = tab (b == 9) refl other

    newline : (t : Bool) → (b == 10) ≡ t → (b == 92) ≡ false → Reads (if t then 92 ∷ 110 ∷ [] else (if b == 13 then 92 ∷ 114 ∷ [] else (if b == 9 then 92 ∷ 116 ∷ [] else (if is_hidden b then hex_escape b else b ∷ []))))
    newline true e other = ap (put_before (Some 10)) rest ∙ letter 10 e
    newline false e other = return (b == 13) refl other

    slash : (t : Bool) → (b == 92) ≡ t
        → Reads (if t then 92 ∷ 92 ∷ [] else (if b == 10 then 92 ∷ 110 ∷ [] else (if b == 13 then 92 ∷ 114 ∷ [] else (if b == 9 then 92 ∷ 116 ∷ [] else (if is_hidden b then hex_escape b else b ∷ [])))))
    slash true e = ap (put_before (Some 92)) rest ∙ letter 92 e
    slash false e = newline (b == 10) refl e

-- ---- the whole

above : (b : ℕ) → 127 < b → (b == 92) ≡ false
above b h = ne_eqb b 92 (λ e. omega (arith, e, h))

-- the text of bytes of which the first n are of a wide character is read as these bytes
pub undone_from : (n : ℕ) (bs : List ℕ) → AllByRecursion (λ b. b < 256) bs → AreHigh n bs → unescaped_from 0 (escaped_from n bs) ≡ Some bs
undone_from n [] small are = refl
undone_from (suc n) (b ∷ bs) small are = plain_read b (escaped_from n bs) bs (above b are.0) (undone_from n bs small.1 are.1)
undone_from zero (b ∷ bs) small are = go (nat_lt 0 (wide_len (b ∷ bs))) refl (undone_from (wide_len (b ∷ bs) - 1) bs small.1 behind) (undone_from 0 bs small.1 tt)
  where
    behind : AreHigh (wide_len (b ∷ bs) - 1) bs
    behind = are_high (wide_len (b ∷ bs) - 1) bs (λ j lt. high (b ∷ bs) (suc j) (omega (arith, lt)))

    go : (t : Bool) → nat_lt 0 (wide_len (b ∷ bs)) ≡ t → unescaped_from 0 (escaped_from (wide_len (b ∷ bs) - 1) bs) ≡ Some bs → unescaped_from 0 (escaped_from 0 bs) ≡ Some bs
        → unescaped_from 0 (if t then b ∷ escaped_from (wide_len (b ∷ bs) - 1) bs else escaped_byte b ++ escaped_from 0 bs) ≡ Some (b ∷ bs)
    go true wide inside alone = plain_read b (escaped_from (wide_len (b ∷ bs) - 1) bs) bs (above b (high (b ∷ bs) 0 (ltb-true 0 (wide_len (b ∷ bs)) wide))) inside
    go false wide inside alone = byte_read b (escaped_from 0 bs) bs small.0 alone
