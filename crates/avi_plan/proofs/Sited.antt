-- Where the lists of the streams stand in a file.
use Rattle.std.proofs.Common.{◌≡◌, ◌∙◌, ◌⊎◌, ℕ, suc, ◌+◌, ◌-◌, ◌%◌, ◌≤◌, ◌<◌, Bool, true, false, cond, eqb, List, [], ◌∷◌, ◌++◌, length, map, take, drop, min, refl, sym, ap, subst, arith, inl, inr, append_assoc, length-append}
use Rattle.std.specs.Prelude.{◌&&◌}
use Rattle.std.specs.Int.{w32, to_le_bytes}
use Rattle.std.proofs.lemmas.Bool.{ne_eqb}
use Rattle.std.proofs.lemmas.List.{drop_at, length-drop, length-take, take-append-drop, take_at}
use Rattle.container_model.specs.Chunk.{Chunk, Form, PadStands, Pads, chunks, header_bytes, pad_len, spell, spell_all}
use Rattle.container_model.specs.Items.{is_nil}
use Rattle.container_model.specs.Sizes.{riff_front}
use Rattle.container_model.specs.Sizes as sizes
use Rattle.container_model.specs.Stood.{Stood, bare, first_of, only, stood}
use Rattle.container_model.specs.Windows.{window}
use Rattle.container_model.proofs.Plain.{IsPlain}
use Rattle.carrier_model.specs.Cells.{counted}
use Rattle.carrier_model.specs.Info.{list_run}
use Rattle.avi_model.specs.Named.{Names, Site, ends_list, hdrl_from, is_hdrl, is_named, is_strl, sites_from}
use Rattle.avi_model.proofs.Respelled.{IsList}
use Rattle.avi_model.proofs.Streams.{AreKids}
use Rattle.avi_plan.specs.Streams.{AreSites, IsSite, behind_type, named_among}
use Rattle.avi_plan.proofs.Around.{spelled_long}

-- ---- bytes that stand in a file

pub record StandAt (b : List ℕ) (at : ℕ) (x : List ℕ) : Type 0 where
  pub front : List ℕ
  pub rest : List ℕ
  pub is : b ≡ front ++ (x ++ rest)
  pub long : length front ≡ at

pub first_part : (b : List ℕ) (at : ℕ) (x y : List ℕ) → StandAt b at (x ++ y) → StandAt b at x
first_part b at x y s = record { front = s.front; rest = y ++ s.rest; is = s.is ∙ ap (λ (z : List ℕ). s.front ++ z) (append_assoc x y s.rest); long = s.long }

pub other_part : (b : List ℕ) (at : ℕ) (x y : List ℕ) → StandAt b at (x ++ y) → StandAt b (at + length x) y
other_part b at x y s = record {
  front = s.front ++ x;
  rest = s.rest;
  is = s.is ∙ ap (λ (z : List ℕ). s.front ++ z) (append_assoc x y s.rest) ∙ sym (append_assoc s.front x (y ++ s.rest));
  long = omega (arith, s.long, length-append s.front x);
}

pub stand_as : (b : List ℕ) (at to : ℕ) (x y : List ℕ) → at ≡ to → x ≡ y → StandAt b at x → StandAt b to y
stand_as b at to x y e f s = subst (λ (k : ℕ). StandAt b k y) e (subst (StandAt b at) f s)

pub stand_end : (b : List ℕ) (at : ℕ) (x : List ℕ) → StandAt b at x → at + length x ≤ length b
stand_end b at x s = omega (arith, ap length s.is, s.long, length-append s.front (x ++ s.rest), length-append x s.rest)

pub window_is : (b : List ℕ) (at : ℕ) (x : List ℕ) → StandAt b at x → window b at (at + length x) ≡ x
window_is b at x s =
    let n : (at + length x) - at ≡ length x = omega arith in
    ap (λ (m : ℕ). take m (drop at b)) n ∙ ap (λ (z : List ℕ). take (length x) (drop at z)) s.is ∙ ap (take (length x)) (drop_at s.front (x ++ s.rest) at s.long) ∙ take_at x s.rest (length x) refl

-- what stands in a chunk
pub body_stands : (b : List ℕ) (at : ℕ) (c : Chunk) → IsPlain c → StandAt b at (spell c) → StandAt b (at + 8) c.body
body_stands b at c plain s =
    let head = header_bytes c.form c.id (length c.body) in
    let eight : length head ≡ 8 = ap (λ (f : Form). length (header_bytes f c.id (length c.body))) plain.form_is ∙ omega (arith, plain.id_len, length-append c.id (to_le_bytes w32 (length c.body))) in
    stand_as b (at + length head) (at + 8) c.body c.body (omega (arith, eight)) refl (first_part b (at + length head) c.body c.pad (other_part b at head (c.body ++ c.pad) s))

-- and in a list, behind its type
pub inside_stands : (b : List ℕ) (at : ℕ) (c : Chunk) → IsPlain c → IsList c → StandAt b at (spell c) → StandAt b (at + 12) (drop 4 c.body)
inside_stands b at c plain is s =
    let word = take 4 c.body in
    let four : length word ≡ 4 = omega (arith, length-take 4 c.body, is.long) in
    stand_as b (at + 8 + length word) (at + 12) (drop 4 c.body) (drop 4 c.body) (omega (arith, four)) refl
    (other_part b (at + 8) word (drop 4 c.body) (stand_as b (at + 8) (at + 8) c.body (word ++ drop 4 c.body) refl (sym (take-append-drop 4 c.body)) (body_stands b at c plain s)))

-- ---- the lists of all streams

abbrev pub strl_sites : Bool → ℕ → ℕ → List Chunk → List Site
strl_sites ends n at [] = []
strl_sites ends n at (c ∷ cs) = cond (is_strl c) (record { at = at; ends = ends && is_nil cs; stream = n; chunk = c } ∷ []) [] ++ strl_sites ends (counted is_strl n c) (at + length (spell c)) cs

pub named_sites : (e : Names) (ends : Bool) (n at : ℕ) (cs : List Chunk) → named_among e (strl_sites ends n at cs) ≡ sites_from e ends n at cs
named_sites e ends n at [] = refl
named_sites e ends n at (c ∷ cs) = go (is_strl c) (named_sites e ends (counted is_strl n c) (at + length (spell c)) cs)
  where
    there : List Site
    there = sites_from e ends (counted is_strl n c) (at + length (spell c)) cs

    s : Site
    s = record { at = at; ends = ends && is_nil cs; stream = n; chunk = c }

    one : (t : Bool) (xs : List Site) → cond t (s ∷ xs) xs ≡ cond t (s ∷ []) [] ++ xs
    one true xs = refl
    one false xs = refl

    go : (t : Bool) → named_among e (strl_sites ends (counted is_strl n c) (at + length (spell c)) cs) ≡ there
        → named_among e (cond t (s ∷ []) [] ++ strl_sites ends (counted is_strl n c) (at + length (spell c)) cs) ≡ cond (t && is_named e n) (s ∷ []) [] ++ there
    go true again = ap (λ (xs : List Site). cond (is_named e n) (s ∷ xs) xs) again ∙ one (is_named e n) there
    go false again = again

-- ---- what ends the file

pub ends_split : (t u : Bool) (p q len : ℕ) → t ≡ eqb q len → q ≤ len → p ≤ q → (u ≡ true → p ≡ q) → (u ≡ false → p < q) → (t && u) ≡ eqb p len
ends_split true true p q len e high low same less = e ∙ ap (λ (k : ℕ). eqb k len) (sym (same refl))
ends_split false true p q len e high low same less = e ∙ ap (λ (k : ℕ). eqb k len) (sym (same refl))
ends_split true false p q len e high low same less = sym (ne_eqb p len (λ f. omega (arith, f, less refl, high)))
ends_split false false p q len e high low same less = sym (ne_eqb p len (λ f. omega (arith, f, less refl, high)))

chunk_some : (c : Chunk) → IsPlain c → 8 ≤ length (spell c)
chunk_some c plain = omega (arith, spelled_long c plain.form_is plain.id_len)

nil_long : (x : List ℕ) → is_nil x ≡ true → length x ≡ 0
nil_long [] e = refl
nil_long (y ∷ x) e = absurd cc

some_long : (x : List ℕ) → is_nil x ≡ false → 0 < length x
some_long [] e = absurd cc
some_long (y ∷ x) e = omega arith

-- a list's chunks end the file where the list does, with nothing behind them in it
pub list_ends : (t : Bool) (at len : ℕ) (c : Chunk) → IsPlain c → IsList c → t ≡ eqb (at + length (spell c)) len → at + length (spell c) ≤ len → (t && ends_list c) ≡ eqb (at + 12 + length (spell_all (list_run c).chunks)) len
list_ends t at len c plain is e high = go (is_nil left) refl (is_nil c.pad) refl
  where
    kids : List ℕ
    kids = spell_all (list_run c).chunks

    left : List ℕ
    left = (list_run c).left

    place : at + length (spell c) ≡ at + 12 + length kids + (length left + length c.pad)
    place = omega (arith, spelled_long c plain.form_is plain.id_len, ap length is.spelled, length-append kids left, length-drop 4 c.body, is.long)

    go : (v : Bool) → is_nil left ≡ v → (w : Bool) → is_nil c.pad ≡ w → (t && (v && w)) ≡ eqb (at + 12 + length kids) len
    go true f true g = ends_split t true (at + 12 + length kids) (at + length (spell c)) len e high (omega (arith, place)) (λ z. omega (arith, place, nil_long left f, nil_long c.pad g)) (λ z. absurd cc)
    go true f false g = ends_split t false (at + 12 + length kids) (at + length (spell c)) len e high (omega (arith, place)) (λ z. absurd cc) (λ z. omega (arith, place, some_long c.pad g))
    go false f w g = ends_split t false (at + 12 + length kids) (at + length (spell c)) len e high (omega (arith, place)) (λ z. absurd cc) (λ z. omega (arith, place, some_long left f))

-- the chunk before the others
first_ends : (t : Bool) (at len : ℕ) (c : Chunk) (cs : List Chunk) → ((d : Chunk) (ds : List Chunk) → cs ≡ d ∷ ds → 8 ≤ length (spell_all cs)) → t ≡ eqb (at + length (spell_all (c ∷ cs))) len → at + length (spell_all (c ∷ cs)) ≤ len → (t && is_nil cs) ≡ eqb (at + length (spell c)) len
first_ends t at len c [] some e high = ends_split t true (at + length (spell c)) (at + length (spell_all (c ∷ []))) len e high (omega (arith, length-append (spell c) [])) (λ z. omega (arith, length-append (spell c) [])) (λ z. absurd cc)
first_ends t at len c (d ∷ ds) some e high =
    let long = length-append (spell c) (spell_all (d ∷ ds)) in
    ends_split t false (at + length (spell c)) (at + length (spell_all (c ∷ (d ∷ ds)))) len e high (omega (arith, long)) (λ z. absurd cc) (λ z. omega (arith, long, some d ds refl))

-- ---- a stream's list

abbrev plain_sizes : sizes.Sizes
plain_sizes = sizes.plain

site_is : (b : List ℕ) (end len : ℕ) (n at : ℕ) (t : Bool) (c : Chunk) → IsPlain c → IsList c → StandAt b at (spell c) → t ≡ eqb (at + length (spell c)) len → at + length (spell c) ≤ len
    → at + 8 + length c.body ≤ end → at + length (spell c) ≡ min end (at + 8 + length c.body + length c.body % 2)
    → IsSite b end len (behind_type (record { at = at; chunk = bare c })) (record { at = at; ends = t; stream = n; chunk = c })
site_is b end len n at t c plain is stands e high inside next = record {
  form_is = plain.form_is;
  id_len = plain.id_len;
  long = is.long;
  told = refl;
  reads = ap (λ (k : ℕ). chunks riff_front plain_sizes (window b (at + 12) (at + 12 + k))) (sym (length-drop 4 c.body)) ∙ ap (chunks riff_front plain_sizes) (window_is b (at + 12) (drop 4 c.body) (inside_stands b at c plain is stands));
  whole = is.all_read;
  pads = is.pads;
  spelled = is.spelled;
  inside = inside;
  next = next;
  last = list_ends t at len c plain is e high;
}

-- its pad is there, unless nothing follows it
pub next_is : (end at : ℕ) (c : Chunk) (more : List ℕ) → IsPlain c → PadStands c.form (length c.body) c.pad more → at + length (spell c) + length more ≡ end → at + length (spell c) ≡ min end (at + 8 + length c.body + length c.body % 2)
next_is end at c more plain h place = go h
  where
    long : length (spell c) ≡ 8 + length c.body + length c.pad
    long = spelled_long c plain.form_is plain.id_len

    pad : pad_len c.form (length c.body) ≡ length c.body % 2
    pad = ap (λ (f : Form). pad_len f (length c.body)) plain.form_is

    go : (length c.pad ≡ pad_len c.form (length c.body)) ⊎ ((length c.pad ≤ pad_len c.form (length c.body)) × (more ≡ [])) → at + length (spell c) ≡ min end (at + 8 + length c.body + length c.body % 2)
    go (inl e) = omega (arith, e, pad, long, place)
    go (inr e) = omega (arith, e.0, pad, long, place, ap length e.1)

kids_some : (cs : List Chunk) → AreKids cs → (d : Chunk) (ds : List Chunk) → cs ≡ d ∷ ds → 8 ≤ length (spell_all cs)
kids_some [] k d ds e = absurd cc
kids_some (c ∷ cs) k d ds e = omega (arith, chunk_some c k.0.plain, length-append (spell c) (spell_all cs))

pub sites_are : (b : List ℕ) (end len : ℕ) (t : Bool) (n at low : ℕ) (cs : List Chunk) (left : List ℕ) → AreKids cs → Pads cs left → StandAt b at (spell_all cs) → t ≡ eqb (at + length (spell_all cs)) len → at + length (spell_all cs) ≤ len
    → at + length (spell_all cs) + length left ≡ end → low ≤ at → AreSites b end len n low (map behind_type (only is_strl (stood at cs))) (strl_sites t n at cs)
sites_are b end len t n at low [] left kids pads stands e high place le = tt
sites_are b end len t n at low (c ∷ cs) left kids pads stands e high place le =
    go (is_strl c) refl (λ m l h. sites_are b end len t m to l cs left kids.1 pads.1 (other_part b at (spell c) (spell_all cs) stands) (e ∙ ap (λ (k : ℕ). eqb k len) long) (omega (arith, high, long)) (omega (arith, place, long)) h)
  where
    to : ℕ
    to = at + length (spell c)

    long : at + length (spell_all (c ∷ cs)) ≡ (at + length (spell c)) + length (spell_all cs)
    long = omega (arith, length-append (spell c) (spell_all cs))

    here : is_strl c ≡ true → IsSite b end len (behind_type (record { at = at; chunk = bare c })) (record { at = at; ends = t && is_nil cs; stream = n; chunk = c })
    here i =
        site_is b end len n at (t && is_nil cs) c kids.0.plain (kids.0.opens i) (first_part b at (spell c) (spell_all cs) stands) (first_ends t at len c cs (kids_some cs kids.1) e high) (omega (arith, high, long))
        (omega (arith, place, long, spelled_long c kids.0.plain.form_is kids.0.plain.id_len)) (next_is end at c (spell_all cs ++ left) kids.0.plain pads.0 (omega (arith, place, long, length-append (spell_all cs) left)))

    go : (u : Bool) → is_strl c ≡ u → ((m l : ℕ) → l ≤ to → AreSites b end len m l (map behind_type (only is_strl (stood to cs))) (strl_sites t m to cs))
        → AreSites b end len n low (map behind_type (cond u (record { at = at; chunk = bare c } ∷ only is_strl (stood to cs)) (only is_strl (stood to cs)))) (cond u (record { at = at; ends = t && is_nil cs; stream = n; chunk = c } ∷ []) [] ++ strl_sites t (cond u (suc n) n) to cs)
    go true i again = (here i, refl, le, again (suc n) to (omega arith))
    go false i again = again n low (omega (arith, le))

-- ---- the first hdrl

pub hdrl_found : (t : Bool) (at : ℕ) (cs : List Chunk) (s : Site) → hdrl_from t at cs ≡ s ∷ [] → first_of (only is_hdrl (stood at cs)) ≡ record { at = s.at; chunk = bare s.chunk } ∷ []
hdrl_found t at [] s e = absurd cc
hdrl_found t at (c ∷ cs) s e = go (is_hdrl c) e (λ f. hdrl_found t (at + length (spell c)) cs s f)
  where
    first : List Site → List Stood
    first [] = []
    first (x ∷ xs) = record { at = x.at; chunk = bare x.chunk } ∷ []

    go : (u : Bool) → cond u (record { at = at; ends = t && is_nil cs; stream = 0; chunk = c } ∷ []) (hdrl_from t (at + length (spell c)) cs) ≡ s ∷ []
        → (hdrl_from t (at + length (spell c)) cs ≡ s ∷ [] → first_of (only is_hdrl (stood (at + length (spell c)) cs)) ≡ record { at = s.at; chunk = bare s.chunk } ∷ [])
        → first_of (cond u (record { at = at; chunk = bare c } ∷ only is_hdrl (stood (at + length (spell c)) cs)) (only is_hdrl (stood (at + length (spell c)) cs))) ≡ record { at = s.at; chunk = bare s.chunk } ∷ []
    go true e again = ap first e
    go false e again = again e
