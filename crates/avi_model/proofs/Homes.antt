-- Chunks that stand in a file: their bodies are its bytes, and their sizes stand in their headers.
use Rattle.std.proofs.Common.{◌≡◌, ◌∙◌, ℕ, zero, suc, ◌+◌, ◌-◌, ◌≤◌, Bool, true, false, ltb, leb, List, [], ◌∷◌, ◌++◌, length, take, drop, refl, sym, ap, subst, inl, inr, arith, length-append, length-drop, length-take}
use Rattle.std.specs.Prelude.{codes, ◌&&◌}
use Rattle.std.specs.Str.{bytes_eq}
use Rattle.std.specs.Int.{w32, to_le_bytes, from_le_bytes}
use Rattle.std.specs.List.{flat_map, AllByRecursion}
use Rattle.std.proofs.lemmas.Bool.{and_parts, cases_lt, leb-true, ltb-false}
use Rattle.std.proofs.lemmas.List.{drop-drop, drop-take, drop_all}
use Rattle.container_model.specs.Chunk.{Form, riff, Chunk, Run, fit, header_bytes, turn, read, chunks, spell, spell_all, behind, chunk_of, pad_len}
use Rattle.container_model.specs.Sizes.{Sizes, plain, riff_ahead, riff_front}
use Rattle.container_model.specs.Stood.{Stood, stood, bare, only}
use Rattle.container_model.specs.Tables.{Table, table_of, named, size_at}
use Rattle.container_model.specs.Written.{slice}
use Rattle.container_model.proofs.Stood.{only_all, first_all}
use Rattle.container_model.proofs.Written.{slice_slice}
use Rattle.carrier_model.specs.Info.{is_type}
use Rattle.avi_model.specs.Avi.{avi_by, avi_front, avi_of, first_body, form_of, form_type, forms, has_id, inner, hdrls, kids, old_indexes, stream_indexes, strls, top}
use Rattle.avi_model.specs.Support.{infos}
use Rattle.avi_model.proofs.Lists.{all_both}
use Rattle.avi_model.proofs.Whys.{avi_from}

-- ---- parts of a file

-- what is behind the first bytes of a range
pub drop_slice : (b : List ℕ) (p m k : ℕ) → drop k (slice b p m) ≡ slice b (p + k) (m - k)
drop_slice b p m k = elim (cases_lt m k) [
  | inl lt ↦
      let short : length (slice b p m) ≤ k = omega (arith, length-take m (drop p b)) in
      let none : m - k ≡ 0 = omega arith in
      drop_all k (slice b p m) short ∙ sym (ap (λ (n : ℕ). take n (drop (p + k) b)) none)
  | inr le ↦
      let split : m ≡ k + (m - k) = omega arith in
      ap (λ (n : ℕ). drop k (take n (drop p b))) split ∙ drop-take k (m - k) (drop p b) ∙ ap (take (m - k)) (drop-drop k p b) ∙ ap (λ (q : ℕ). take (m - k) (drop q b)) (omega arith)
]

-- as many bytes are passed as are there
drop_taken : (n : ℕ) (x : List ℕ) → drop n x ≡ drop (length (take n x)) x
drop_taken n x = elim (cases_lt (length x) n) [
  | inl lt ↦
      let all : length (take n x) ≡ length x = omega (arith, length-take n x) in
      drop_all n x (omega arith) ∙ sym (ap (λ (k : ℕ). drop k x) all ∙ drop_all (length x) x (omega arith))
  | inr le ↦ let all : length (take n x) ≡ n = omega (arith, length-take n x) in ap (λ (k : ℕ). drop k x) (sym all)
]

-- ---- chunks at home

pub record AtHome (b : List ℕ) (x : Stood) : Type 0 where
  pub body : x.chunk.body ≡ slice b (x.at + 8) (length x.chunk.body)
  pub size : size_at b x.at ≡ length x.chunk.body
  pub fits : x.at + 8 + length x.chunk.body ≤ length b

abbrev pub AllHome : List ℕ → List Stood → Type 0
AllHome b xs = AllByRecursion (AtHome b) xs

-- what is read has as many bytes as there are
abbrev pub IsLong : ℕ → Run → Type 0
IsLong n r = length (spell_all r.chunks) + length r.left ≡ n

module _ (b : List ℕ) (p m : ℕ) where
  abbrev w : List ℕ
  w = slice b p m

  abbrev n : ℕ
  n = from_le_bytes w32 (take 4 (drop 4 w))

  abbrev c : Chunk
  c = chunk_of riff (take 4 w) n (drop 8 w)

  module _ (long : 8 ≤ length w) (there : n ≤ length (drop 8 w)) where
    room : (8 + n ≤ m) × (p + 8 + n ≤ length b)
    room = (omega (arith, long, there, length-drop 8 w, length-take m (drop p b)), omega (arith, long, there, length-drop 8 w, length-take m (drop p b), length-drop p b))

    len : length (take n (drop 8 w)) ≡ n
    len = omega (arith, there, length-take n (drop 8 w))

    pub home_one : AtHome b (record { at = p; chunk = bare c })
    home_one = record {
      body = slice_slice b p m 8 n room.0 ∙ ap (slice b (p + 8)) (sym len);
      size = ap (from_le_bytes w32) (sym (slice_slice b p m 4 4 (omega (arith, room.0)))) ∙ sym len;
      fits = omega (arith, room.1, len);
    }

    pub spell_long : length (spell c) ≡ 8 + n + length c.pad
    spell_long =
        omega (arith, len, long, length-append (take 4 w ++ to_le_bytes w32 (length c.body)) (c.body ++ c.pad), length-append (take 4 w) (to_le_bytes w32 (length c.body)), length-append c.body c.pad, length-take 4 w)

    pub home_next : behind riff n (drop 8 w) ≡ slice b (p + length (spell c)) (m - 8 - n - length c.pad)
    home_next =
        drop_taken (pad_len riff n) (drop n (drop 8 w))
        ∙ ap (λ (y : List ℕ). drop (length c.pad) (drop n y)) (drop_slice b p m 8)
        ∙ ap (drop (length c.pad)) (drop_slice b (p + 8) (m - 8) n)
        ∙ drop_slice b (p + 8 + n) (m - 8 - n) (length c.pad)
        ∙ ap (λ (q : ℕ). slice b q (m - 8 - n - length c.pad)) (omega (arith, spell_long))

  -- by whether the body passes the end
  home_by : (again : Sizes → List ℕ → Run) → 8 ≤ length w → ((q l : ℕ) → AllHome b (stood q (again plain (slice b q l)).chunks)) → (t : Bool) → ltb (length (drop 8 w)) n ≡ t
      → AllHome b (stood p (fit again w riff (take 4 w) n (drop 8 w) plain t).chunks)
  home_by again long rest true e = tt
  home_by again long rest false e =
      let there : n ≤ length (drop 8 w) = ltb-false (length (drop 8 w)) n e in (
        home_one long there,
        subst (λ (y : List ℕ). AllHome b (stood (p + length (spell c)) (again plain y).chunks)) (sym (home_next long there)) (rest (p + length (spell c)) (m - 8 - n - length c.pad)),
      )

  long_by : (again : Sizes → List ℕ → Run) → 8 ≤ length w → ((q l : ℕ) → IsLong (length (slice b q l)) (again plain (slice b q l))) → (t : Bool) → ltb (length (drop 8 w)) n ≡ t
      → IsLong (length w) (fit again w riff (take 4 w) n (drop 8 w) plain t)
  long_by again long rest true e = omega arith
  long_by again long rest false e =
      let there : n ≤ length (drop 8 w) = ltb-false (length (drop 8 w)) n e in
      let later = behind riff n (drop 8 w) in
      let run = again plain later in
      let more : IsLong (length later) run = subst (λ (y : List ℕ). IsLong (length y) (again plain y)) (sym (home_next long there)) (rest (p + length (spell c)) (m - 8 - n - length c.pad)) in
      let size : length (spell c) ≡ 8 + n + length c.pad = spell_long long there in
      let gone : length later ≡ length (drop n (drop 8 w)) - length c.pad = ap length (drop_taken (pad_len riff n) (drop n (drop 8 w))) ∙ length-drop (length c.pad) (drop n (drop 8 w)) in
      let fits : length c.pad ≤ length (drop n (drop 8 w)) = omega (arith, length-take (pad_len riff n) (drop n (drop 8 w))) in
      omega (arith, more, size, gone, fits, there, long, length-drop n (drop 8 w), length-drop 8 w, length-append (spell c) (spell_all run.chunks))

home_read : (k : ℕ) (b : List ℕ) (p m : ℕ) → AllHome b (stood p (read riff_front k plain (slice b p m)).chunks)
unfolding read
home_read zero b p m = tt
home_read (suc k) b p m = go (ltb (length (slice b p m)) 8) refl (λ q l. home_read k b q l)
  where
    go : (t : Bool) → ltb (length (slice b p m)) 8 ≡ t → ((q l : ℕ) → AllHome b (stood q (read riff_front k plain (slice b q l)).chunks))
        → AllHome b (stood p (turn (read riff_front k) (slice b p m) (riff_ahead plain (slice b p m) t)).chunks)
    go true e again = tt
    go false e again =
        home_by b p m (read riff_front k) (ltb-false (length (slice b p m)) 8 e) again (ltb (length (drop 8 (slice b p m))) (from_le_bytes w32 (take 4 (drop 4 (slice b p m))))) refl

long_read : (k : ℕ) (b : List ℕ) (p m : ℕ) → IsLong (length (slice b p m)) (read riff_front k plain (slice b p m))
unfolding read
long_read zero b p m = omega arith
long_read (suc k) b p m = go (ltb (length (slice b p m)) 8) refl (λ q l. long_read k b q l)
  where
    go : (t : Bool) → ltb (length (slice b p m)) 8 ≡ t → ((q l : ℕ) → IsLong (length (slice b q l)) (read riff_front k plain (slice b q l)))
        → IsLong (length (slice b p m)) (turn (read riff_front k) (slice b p m) (riff_ahead plain (slice b p m) t))
    go true e again = omega arith
    go false e again =
        long_by b p m (read riff_front k) (ltb-false (length (slice b p m)) 8 e) again (ltb (length (drop 8 (slice b p m))) (from_le_bytes w32 (take 4 (drop 4 (slice b p m))))) refl

pub row_length : (b : List ℕ) (p m : ℕ) → IsLong (length (slice b p m)) (chunks riff_front plain (slice b p m))
unfolding chunks
row_length b p m = long_read (suc (length (slice b p m))) b p m

pub home_row : (b : List ℕ) (p m : ℕ) → AllHome b (stood p (chunks riff_front plain (slice b p m)).chunks)
unfolding chunks
home_row b p m = home_read (suc (length (slice b p m))) b p m

-- a list at home behind its type, and its chunks
pub list_home : (b : List ℕ) (x : Stood) → AtHome b x → drop 4 x.chunk.body ≡ slice b (x.at + 12) (length x.chunk.body - 4)
list_home b x h =
    let n = length x.chunk.body in
    ap (drop 4) h.body ∙ drop_slice b (x.at + 8) n 4 ∙ ap (λ (q : ℕ). slice b q (n - 4)) (omega arith)

pub kids_home : (b : List ℕ) (x : Stood) → AtHome b x → AllHome b (kids x)
kids_home b x h = subst (λ (y : List ℕ). AllHome b (stood (x.at + 12) (chunks riff_front plain y).chunks)) (sym (list_home b x h)) (home_row b (x.at + 12) (length x.chunk.body - 4))

-- ---- the first form

-- it is read as RIFF, and its body is a part of the file
abbrev pub FirstIs : List ℕ → List Chunk → Type 0
FirstIs b [] = Unit {0}
FirstIs b (c ∷ cs) = (n : ℕ) × (c.form ≡ riff) × (length c.id ≡ 4) × (c.body ≡ slice b 8 n)

abbrev size_of : List ℕ → ℕ
size_of b = from_le_bytes w32 (take 4 (drop 4 b))

pub first_is : (b : List ℕ) → FirstIs b (forms b).chunks
unfolding chunks read
first_is b = go (leb 12 (length b) && (bytes_eq (take 4 b) (codes "RIFF") && bytes_eq (take 4 (drop 8 b)) (form_type true))) refl
  where
    one : (t : Bool) → 12 ≤ length b → FirstIs b (fit (read avi_front (length b)) b riff (take 4 b) (size_of b) (drop 8 b) false t).chunks
    one true long = tt
    one false long = (size_of b, refl, omega (arith, long, length-take 4 b), refl)

    go : (t : Bool) → (leb 12 (length b) && (bytes_eq (take 4 b) (codes "RIFF") && bytes_eq (take 4 (drop 8 b)) (form_type true))) ≡ t → FirstIs b (turn (read avi_front (length b)) b (avi_by b t)).chunks
    go false e = tt
    go true e = one (ltb (length (drop 8 b)) (size_of b)) (leb-true 12 (length b) (and_parts (leb 12 (length b)) (bytes_eq (take 4 b) (codes "RIFF") && bytes_eq (take 4 (drop 8 b)) (form_type true)) e).0)

-- so are its chunks
first_part : (b : List ℕ) (cs : List Chunk) → FirstIs b cs → (l : ℕ) × (drop 4 (first_body cs) ≡ slice b 12 l)
first_part b [] h = (0, refl)
first_part b (c ∷ cs) h = (h.0 - 4, ap (drop 4) h.3 ∙ drop_slice b 8 h.0 4)

pub top_home : (b : List ℕ) → AllHome b (top (avi_of b))
top_home b =
    let part = first_part b (forms b).chunks (first_is b) in
    subst (λ (y : List ℕ). AllHome b (stood 12 (chunks riff_front plain y).chunks)) (sym part.1) (home_row b 12 part.0)

-- the first form spells as many bytes as its parts
pub first_long : (b : List ℕ) (c : Chunk) (cs : List Chunk) (left : List ℕ) → FirstIs b (c ∷ cs) → 4 ≤ length c.body → length (spell (form_of (avi_from (c ∷ cs) left))) ≡ length (spell c)
first_long b c cs left h long =
    let a = avi_from (c ∷ cs) left in
    let part = first_part b (c ∷ cs) h in
    let run : length (spell_all a.children) + length a.left ≡ length (drop 4 c.body) =
    ap (λ (y : List ℕ). length (spell_all (chunks riff_front plain y).chunks) + length (chunks riff_front plain y).left) part.1 ∙ row_length b 12 part.0 ∙ ap length (sym part.1)
    in
    let head : length (header_bytes c.form c.id (length c.body)) ≡ 8 =
    ap (λ (f : Form). length (header_bytes f c.id (length c.body))) h.1 ∙ omega (arith, h.2, length-append c.id (to_le_bytes w32 (length c.body)))
    in
    omega (
      arith,
      run,
      head,
      long,
      length-drop 4 c.body,
      length-append (spell_all a.children) a.left,
      length-append (codes "AVI ") (spell_all a.children ++ a.left),
      length-append (codes "RIFF" ++ to_le_bytes w32 (length (inner a.children a.left))) (inner a.children a.left ++ c.pad),
      length-append (inner a.children a.left) c.pad,
      length-append (header_bytes c.form c.id (length c.body)) (c.body ++ c.pad),
      length-append c.body c.pad,
    )

-- ---- the tables and lists of fields in it

pub flat_home : (b : List ℕ) (xs : List Stood) → AllHome b xs → AllHome b (flat_map kids xs)
flat_home b [] h = tt
flat_home b (x ∷ xs) h = all_both (AtHome b) (kids x) (flat_map kids xs) (kids_home b x h.0) (flat_home b xs h.1)

pub hdrls_home : (b : List ℕ) → AllHome b (hdrls (avi_of b))
hdrls_home b =
    let a = avi_of b in
    first_all (AtHome b) (only (is_type (codes "hdrl")) (top a)) (only_all (AtHome b) (is_type (codes "hdrl")) (top a) (top_home b))

pub strls_home : (b : List ℕ) → AllHome b (strls (avi_of b))
strls_home b =
    let a = avi_of b in
    only_all (AtHome b) (is_type (codes "strl")) (flat_map kids (hdrls a)) (flat_home b (hdrls a) (hdrls_home b))

pub streams_home : (b : List ℕ) → AllHome b (stream_indexes (avi_of b))
streams_home b =
    let a = avi_of b in
    only_all (AtHome b) (has_id (codes "indx")) (flat_map kids (strls a)) (flat_home b (strls a) (strls_home b))

pub olds_home : (b : List ℕ) → AllHome b (old_indexes (avi_of b))
olds_home b =
    let a = avi_of b in
    first_all (AtHome b) (only (has_id (codes "idx1")) (top a)) (only_all (AtHome b) (has_id (codes "idx1")) (top a) (top_home b))

pub infos_home : (b : List ℕ) → AllHome b (infos (avi_of b))
infos_home b = only_all (AtHome b) (is_type (codes "INFO")) (top (avi_of b)) (top_home b)

-- a table is the one that stands there
pub table_named : (b : List ℕ) (x : Stood) → AtHome b x → table_of x ≡ named b x.at
table_named b x h = ap (λ (y : List ℕ). let t : Table = record { at = x.at + 8; body = y } in t) (h.body ∙ ap (slice b (x.at + 8)) (sym h.size))
