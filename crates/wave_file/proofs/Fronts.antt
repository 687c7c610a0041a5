-- The form at the front of a file, its sizes, and its chunks.
use Rattle.std.proofs.Common.{◌≡◌, ◌∙◌, ℕ, ◌+◌, ◌-◌, ◌*◌, ◌<◌, ◌≤◌, Bool, true, false, ltb, List, [], ◌∷◌, ◌++◌, length, take, drop, refl, sym, ap, arith, subst, length-take, length-drop}
use Rattle.std.specs.Prelude.{Option, Some, None, if◌then◌else◌, codes, ◌&&◌, ◌||◌, ◌==◌, nat_lt, not}
use Rattle.std.specs.Int.{w32, from_le_bytes}
use Rattle.std.specs.Str.{bytes_eq}
use Rattle.std.specs.declared.result.Result.TheVariants.{Err}
use Rattle.std.proofs.lemmas.Bool.{le-ltb, lt-ltb, ltb-false}
use Rattle.std.proofs.lemmas.List.{take-take, take-append-drop, append-nil}
use Rattle.part_tree.specs.Letters.{four}
use Rattle.part_tree.specs.declared.names.Kind.{Kind}
use Rattle.part_tree.specs.declared.names.Span.{Span}
use Rattle.part_tree.specs.declared.fields.Entry.{Entry}
use Rattle.part_tree.specs.declared.why.Why.{Why}
use Rattle.part_tree.specs.declared.why.Why.TheVariants.{UnknownKind, Truncated, NoDs64, ShortDs64, CarrierBig}
use Rattle.part_tree.specs.declared.why.ReadFault.{ReadFault}
use Rattle.part_tree.specs.declared.why.ReadFault.TheVariants as Fault
use Rattle.part_tree.specs.Fields.{values}
use Rattle.part_tree.proofs.Places.{bytes_same}
use Rattle.container_model.specs.Chunk.{chunks}
use Rattle.container_model.specs.Sizes.{Sizes, plain, table, riff_front}
use Rattle.container_model.specs.Written.{slice}
use Rattle.container_model.proofs.Windows.{length_slice}
use Rattle.rf64_ds64.specs.declared.Ds64.{Ds64}
use Rattle.rf64_ds64.specs.Ds64.{IsDs64, is_short, needed}
use Rattle.container_model.specs.Ds64.{le32, le64, rows, table_of}
use Rattle.wave_model.specs.Wave.{is_big, form_size, form_body, form_run, sizes_of, kind_of}
use Rattle.wave_model.specs.Edited.{is_kind}
use Rattle.wave_model.specs.Why.{kind_tests, ds64_tests, ds64_why, form_tests, chunks_why, why}
use Rattle.container_model.specs.Tests.{first, or_else}
use Rattle.wave_model.proofs.Ds64.{table_same}
use Rattle.wave_file.specs.declared.form.Front.{Front}
use Rattle.wave_file.specs.declared.form.AllRead.{AllRead}
use Rattle.wave_file.specs.declared.map.WaveMap.{WaveMap}
use Rattle.wave_file.specs.Form.{IsFront, IsRead, ReadsFront, ReadsForm, ReadsSizes, ReadsChunks, ReadsEnd, size_by, ends_badly, kind_from, HasForm}
use Rattle.wave_file.specs.Map.{HasSizes, IsMapOf, ReadsWave}
use Rattle.wave_file.specs.Reads.{IsForm}
use Rattle.wave_file.specs.Sized.{sizes_in, run_at}
use Rattle.wave_file.proofs.Listed.{slice_drop}

and_false : (a b : Bool) → b ≡ false → (a && b) ≡ false
and_false true b e = e
and_false false b e = refl

or_no : (t : Bool) → (t || false) ≡ t
or_no true = refl
or_no false = refl

or_true : (a b : Bool) → b ≡ true → (a || b) ≡ true
or_true true b e = refl
or_true false b e = e

one_test : (a : Bool) (v : Why) → a ≡ true → first ((a, v) ∷ []) ≡ Some v
one_test a v e = rw e refl

no_test : (a : Bool) (v : Why) → a ≡ false → first ((a, v) ∷ []) ≡ None
no_test a v e = rw e refl

-- ---- the kind

abbrev is_wave : List ℕ → Bool
is_wave b = is_kind (take 4 b) && bytes_eq (take 4 (drop 8 b)) (codes "WAVE")

pub short_kind : (b : List ℕ) → length b < 12 → first (kind_tests b) ≡ Some UnknownKind
short_kind b h = one_test (not (is_wave b)) UnknownKind (ap not (and_false (is_kind (take 4 b)) (bytes_eq (take 4 (drop 8 b)) (codes "WAVE")) (go (bytes_eq (take 4 (drop 8 b)) (codes "WAVE")) refl)))
  where
    go : (t : Bool) → bytes_eq (take 4 (drop 8 b)) (codes "WAVE") ≡ t → t ≡ false
    go true e = absurd (omega (arith, h, ap length (bytes_same (take 4 (drop 8 b)) (codes "WAVE") e), length-take 4 (drop 8 b), length-drop 8 b))
    go false e = refl

-- the kind by both identifiers
pub kind_told : (b : List ℕ) (big bw : Bool) → big ≡ is_big (take 4 b) → bw ≡ bytes_eq (codes "BW64") (take 4 b) → kind_from big bw ≡ kind_of b
kind_told b big bw e i = ap (λ (t : Bool). kind_from t bw) e ∙ ap (kind_from (is_big (take 4 b))) i ∙ go (is_big (take 4 b))
  where
    go : (t : Bool) → kind_from t (bytes_eq (codes "BW64") (take 4 b)) ≡ (if t then (if bytes_eq (codes "BW64") (take 4 b) then Rattle.part_tree.specs.declared.names.Kind.TheVariants.Bw64 else Rattle.part_tree.specs.declared.names.Kind.TheVariants.Rf64) else Rattle.part_tree.specs.declared.names.Kind.TheVariants.Wave)
    go true = refl
    go false = refl

-- ---- ds64

module _ (b : List ℕ) where
  abbrev size : ℕ
  size = le32 (drop 16 b)

  abbrev count : ℕ
  count = le32 (drop 44 b)

  abbrev absent : Bool
  absent = nat_lt (length b) 20 || not (bytes_eq (take 4 (drop 12 b)) (codes "ds64"))

  abbrev short : Bool
  short = nat_lt size 28 || (nat_lt (length b) (20 + size) || nat_lt size (28 + 12 * count))

  three : (x y z : Bool) (v w u : Why) → x ≡ false → y ≡ false → z ≡ false → first ((x, v) ∷ ((y, w) ∷ ((z, u) ∷ []))) ≡ None
  three x y z v w u e f g = rw (e, f, g) refl

  third : (x y z : Bool) (v w u : Why) → x ≡ false → y ≡ false → z ≡ true → first ((x, v) ∷ ((y, w) ∷ ((z, u) ∷ []))) ≡ Some u
  third x y z v w u e f g = rw (e, f, g) refl

  second : (x y z : Bool) (v w u : Why) → x ≡ false → y ≡ true → first ((x, v) ∷ ((y, w) ∷ ((z, u) ∷ []))) ≡ Some w
  second x y z v w u e f = rw (e, f) refl

  first_of : (x y z : Bool) (v w u : Why) → x ≡ true → first ((x, v) ∷ ((y, w) ∷ ((z, u) ∷ []))) ≡ Some v
  first_of x y z v w u e = rw e refl

  pub no_room : length b < 20 → first (ds64_tests b) ≡ Some NoDs64
  no_room h = first_of absent (nat_lt 16777216 size) short NoDs64 (CarrierBig (four (codes "ds64")) size) (ShortDs64 size) (ap (λ (t : Bool). t || not (bytes_eq (take 4 (drop 12 b)) (codes "ds64"))) (lt-ltb (length b) 20 h))

  pub other_id : bytes_eq (take 4 (drop 12 b)) (codes "ds64") ≡ false → first (ds64_tests b) ≡ Some NoDs64
  other_id h = first_of absent (nat_lt 16777216 size) short NoDs64 (CarrierBig (four (codes "ds64")) size) (ShortDs64 size) (or_true (nat_lt (length b) 20) (not (bytes_eq (take 4 (drop 12 b)) (codes "ds64"))) (ap not h))

  present : 20 ≤ length b → bytes_eq (take 4 (drop 12 b)) (codes "ds64") ≡ true → absent ≡ false
  present long is = ap (λ (t : Bool). nat_lt (length b) 20 || not t) is ∙ or_no (nat_lt (length b) 20) ∙ le-ltb (length b) 20 long

  pub too_big : (n : ℕ) → 20 ≤ length b → bytes_eq (take 4 (drop 12 b)) (codes "ds64") ≡ true → n ≡ size → 16777216 < n → first (ds64_tests b) ≡ Some (CarrierBig (four (codes "ds64")) n)
  too_big n long is e h =
      second absent (nat_lt 16777216 size) short NoDs64 (CarrierBig (four (codes "ds64")) size) (ShortDs64 size) (present long is) (lt-ltb 16777216 size (omega (arith, e, h)))
      ∙ ap (λ (k : ℕ). Some (CarrierBig (four (codes "ds64")) k)) (sym e)

  pub past_file : (n : ℕ) → 20 ≤ length b → bytes_eq (take 4 (drop 12 b)) (codes "ds64") ≡ true → n ≡ size → n ≤ 16777216 → length b < 20 + n → first (ds64_tests b) ≡ Some (ShortDs64 n)
  past_file n long is e small h =
      third absent (nat_lt 16777216 size) short NoDs64 (CarrierBig (four (codes "ds64")) size) (ShortDs64 size) (present long is) (le-ltb 16777216 size (omega (arith, e, small)))
      (or_true (nat_lt size 28) (nat_lt (length b) (20 + size) || nat_lt size (28 + 12 * count)) (ap (λ (t : Bool). t || nat_lt size (28 + 12 * count)) (lt-ltb (length b) (20 + size) (omega (arith, e, h)))))
      ∙ ap (λ (k : ℕ). Some (ShortDs64 k)) (sym e)

  -- the body of ds64
  module _ (n : ℕ) (long : 20 ≤ length b) (is : bytes_eq (take 4 (drop 12 b)) (codes "ds64") ≡ true) (e : n ≡ size) (small : n ≤ 16777216) (inside : 20 + n ≤ length b) where
    abbrev body : List ℕ
    body = slice b 20 n

    body_len : length body ≡ n
    body_len = length_slice b 20 n inside

    count_in : 28 ≤ n → le32 (drop 24 body) ≡ count
    count_in room = ap (from_le_bytes w32) (ap (take 4) (slice_drop b 20 n 24 (omega arith)) ∙ take-take 4 (n - 24) (drop 44 b) (omega arith))

    short_is : is_short body ≡ short
    short_is =
        ap (λ (k : ℕ). nat_lt k 28 || nat_lt k (needed body)) body_len
        ∙ go (ltb n 28) refl
        ∙ ap (λ (k : ℕ). nat_lt k 28 || nat_lt k (28 + 12 * count)) e
        ∙ sym (ap (λ (t : Bool). nat_lt size 28 || (t || nat_lt size (28 + 12 * count))) (le-ltb (length b) (20 + size) (omega (arith, e, inside))))
      where
        go : (t : Bool) → ltb n 28 ≡ t → (t || nat_lt n (needed body)) ≡ (t || nat_lt n (28 + 12 * count))
        go true h = refl
        go false h = ap (λ (k : ℕ). nat_lt n (28 + 12 * k)) (count_in (ltb-false n 28 h))

    pub short_body : is_short body ≡ true → first (ds64_tests b) ≡ Some (ShortDs64 n)
    short_body h =
        third absent (nat_lt 16777216 size) short NoDs64 (CarrierBig (four (codes "ds64")) size) (ShortDs64 size) (present long is) (le-ltb 16777216 size (omega (arith, e, small))) (sym short_is ∙ h)
        ∙ ap (λ (k : ℕ). Some (ShortDs64 k)) (sym e)

    pub sizes_pass : is_short body ≡ false → first (ds64_tests b) ≡ None
    sizes_pass h = three absent (nat_lt 16777216 size) short NoDs64 (CarrierBig (four (codes "ds64")) size) (ShortDs64 size) (present long is) (le-ltb 16777216 size (omega (arith, e, small))) (sym short_is ∙ h)

-- ---- where the form ends

big_size : (b : List ℕ) (field : ℕ) (ds : Ds64) → is_big (take 4 b) ≡ true → field ≡ le32 (drop 4 b) → ds.riff ≡ le64 (drop 20 b) → size_by field (Some ds) ≡ form_size b
big_size b field ds big is riff_is =
    ap (λ (k : ℕ). if field == 4294967295 then k else field) riff_is
    ∙ ap (λ (k : ℕ). if k == 4294967295 then le64 (drop 20 b) else k) is
    ∙ sym (ap (λ (t : Bool). if t && (le32 (drop 4 b) == 4294967295) then le64 (drop 20 b) else le32 (drop 4 b)) big)

plain_size : (b : List ℕ) (field : ℕ) → is_big (take 4 b) ≡ false → field ≡ le32 (drop 4 b) → size_by field None ≡ form_size b
plain_size b field big is = is ∙ sym (ap (λ (t : Bool). if t && (le32 (drop 4 b) == 4294967295) then le64 (drop 20 b) else le32 (drop 4 b)) big)

-- a body of ds64 that isn't short holds riffSize and its table
module _ (b : List ℕ) (n : ℕ) (ds : Ds64) (inside : 20 + n ≤ length b) (long : is_short (slice b 20 n) ≡ false) (d : IsDs64 (slice b 20 n) ds) where
  parts_long : (x y : Bool) → (x || y) ≡ false → (x ≡ false) × (y ≡ false)
  parts_long true y e = absurd cc
  parts_long false y e = (refl, e)

  body_at : slice b 20 n ++ drop n (drop 20 b) ≡ drop 20 b
  body_at = take-append-drop n (drop 20 b)

  least : 28 ≤ length (slice b 20 n)
  least = ltb-false (length (slice b 20 n)) 28 (parts_long (ltb (length (slice b 20 n)) 28) (ltb (length (slice b 20 n)) (needed (slice b 20 n))) long).0

  rows_fit : needed (slice b 20 n) ≤ length (slice b 20 n)
  rows_fit = ltb-false (length (slice b 20 n)) (needed (slice b 20 n)) (parts_long (ltb (length (slice b 20 n)) 28) (ltb (length (slice b 20 n)) (needed (slice b 20 n))) long).1

  pub riff_size : ds.riff ≡ le64 (drop 20 b)
  riff_size =
      let room : 28 ≤ n = omega (arith, least, length-take n (drop 20 b)) in
      d.riff ∙ ap (from_le_bytes Rattle.std.specs.Int.w64) (take-take 8 n (drop 20 b) (omega arith))

  pub table_is : table_of (drop 20 b) ≡ sizes_in (Some ds)
  table_is =
      let body = slice b 20 n in
      ap table_of (sym body_at)
      ∙ table_same body body (drop n (drop 20 b)) [] refl refl least rows_fit
      ∙ ap table_of (append-nil body)
      ∙ ap (λ (k : ℕ). table k (rows (le32 (drop 24 body)) (drop 28 body))) (sym d.data_size)
      ∙ ap (table ds.data_size) (sym d.rows)

-- the form's sizes are those of ds64
pub sizes_read : (b : List ℕ) (n : ℕ) (ds : Ds64) → 20 ≤ length b → bytes_eq (take 4 (drop 12 b)) (codes "ds64") ≡ true → n ≡ le32 (drop 16 b) → n ≤ 16777216 → 20 + n ≤ length b → is_short (slice b 20 n) ≡ false
    → IsDs64 (slice b 20 n) ds → (first (ds64_tests b) ≡ None) × (is_big (take 4 b) ≡ true → HasForm b (Some ds))
sizes_read b n ds room is e small inside long d = (
  sizes_pass b n room is e small inside long,
  λ big. record {
    has = (big, subst (λ (k : ℕ). IsDs64 (slice b 20 k) ds) e d);
    state = ap (λ (t : Bool). if t then table_of (drop 20 b) else plain) big ∙ table_is b n ds inside long d;
    size = λ field f. big_size b field ds big f (riff_size b n ds inside long d);
  },
)

pub no_sizes : (b : List ℕ) → is_big (take 4 b) ≡ false → HasForm b None
no_sizes b big = record {
  has = big;
  state = ap (λ (t : Bool). if t then table_of (drop 20 b) else plain) big;
  size = λ field f. plain_size b field big f;
}

-- the form whole in the file
end_fails : (b : List ℕ) (n : ℕ) → ends_badly n (length b) ≡ true → n ≡ form_size b → first (form_tests b) ≡ Some (Truncated 0)
end_fails b n h e = one_test (ends_badly (form_size b) (length b)) (Truncated 0) (ap (λ (k : ℕ). ends_badly k (length b)) (sym e) ∙ h)

end_holds : (b : List ℕ) (n : ℕ) → ends_badly n (length b) ≡ false → n ≡ form_size b → first (form_tests b) ≡ None
end_holds b n h e = no_test (ends_badly (form_size b) (length b)) (Truncated 0) (ap (λ (k : ℕ). ends_badly k (length b)) (sym e) ∙ h)

run_is : (b : List ℕ) (s : Sizes) (end : ℕ) → sizes_of b ≡ s → end ≡ 8 + form_size b → 4 ≤ form_size b → form_run b ≡ run_at s b 12 end
run_is b s end e is long =
    ap (λ (z : Sizes). chunks riff_front z (drop 4 (form_body b))) e
    ∙ ap (chunks riff_front s) (slice_drop b 8 (form_size b) 4 long ∙ ap (λ (k : ℕ). take k (drop 12 b)) (omega (arith, is)))

pub form_is : (b : List ℕ) (f : Front) (ds : Option Ds64) (len end : ℕ) → IsFront b f → ds64_why f.big b ≡ None → HasForm b ds → len ≡ length b → ReadsEnd f.field ds len (Some end) → IsForm b ds end
form_is b f ds len end front tests has l h =
    let size = has.size f.field front.field in
    let ok : ends_badly (size_by f.field ds) (length b) ≡ false = ap (ends_badly (size_by f.field ds)) (sym l) ∙ h.0 in
    record {
      tests = front.tests;
      ds64 = ap (λ (t : Bool). ds64_why t b) (sym front.big) ∙ tests;
      form = end_holds b (size_by f.field ds) ok size;
      has = has.has;
      state = has.state;
      size = h.1 ∙ ap (λ (k : ℕ). 8 + k) size;
      run = run_is b (sizes_in ds) end has.state (h.1 ∙ ap (λ (k : ℕ). 8 + k) size) (omega (arith, h.1, h.2, size));
    }

-- ---- the whole

why_from : (b : List ℕ) (f : Front) (x y : Option Why) → IsFront b f → ds64_why f.big b ≡ x → first (form_tests b) ≡ y → why b ≡ or_else x (or_else y (chunks_why b))
unfolding why
why_from b f x y front e i =
    ap (λ (k : Option Why). or_else k (or_else (ds64_why (is_big (take 4 b)) b) (or_else (first (form_tests b)) (chunks_why b)))) front.tests
    ∙ ap (λ (t : Bool). or_else (ds64_why t b) (or_else (first (form_tests b)) (chunks_why b))) (sym front.big)
    ∙ ap (λ (k : Option Why). or_else k (or_else (first (form_tests b)) (chunks_why b))) e
    ∙ ap (λ (k : Option Why). or_else x (or_else k (chunks_why b))) i

pub front_fails : (b : List ℕ) (fault : ReadFault) → ReadsFront b (Err fault) → ReadsWave b (Err fault)
unfolding why
front_fails b (Fault.Why w) h = ap (λ (k : Option Why). or_else k (or_else (ds64_why (is_big (take 4 b)) b) (or_else (first (form_tests b)) (chunks_why b)))) h
front_fails b Fault.Depot h = tt
front_fails b Fault.Memory h = tt

pub sizes_fail : (b : List ℕ) (f : Front) (fault : ReadFault) → IsFront b f → ReadsForm b f.big (Err fault) → ReadsWave b (Err fault)
sizes_fail b f (Fault.Why w) front h = why_from b f (Some w) (first (form_tests b)) front h refl
sizes_fail b f Fault.Depot front h = tt
sizes_fail b f Fault.Memory front h = tt

pub form_fails : (b : List ℕ) (f : Front) (ds : Option Ds64) (len : ℕ) → IsFront b f → ds64_why f.big b ≡ None → HasForm b ds → len ≡ length b → ReadsEnd f.field ds len None → why b ≡ Some (Truncated 0)
form_fails b f ds len front tests has l h =
    why_from b f None (Some (Truncated 0)) front tests (end_fails b (size_by f.field ds) (ap (ends_badly (size_by f.field ds)) (sym l) ∙ h) (has.size f.field front.field))

why_chunks : (b : List ℕ) (f : Front) (ds : Option Ds64) (end : ℕ) → IsFront b f → IsForm b ds end → why b ≡ chunks_why b
why_chunks b f ds end front form = why_from b f None None front (ap (λ (t : Bool). ds64_why t b) front.big ∙ form.ds64) form.form

pub chunks_fail : (b : List ℕ) (f : Front) (ds : Option Ds64) (end : ℕ) (fault : ReadFault) → IsFront b f → IsForm b ds end → ReadsChunks b (Err fault) → ReadsWave b (Err fault)
chunks_fail b f ds end (Fault.Why w) front form h = why_chunks b f ds end front form ∙ h
chunks_fail b f ds end Fault.Depot front form h = tt
chunks_fail b f ds end Fault.Memory front form h = tt

pub map_is : (b : List ℕ) (f : Front) (m : WaveMap) (r : AllRead) (ds : Option Ds64) → IsFront b f → IsForm b ds m.form_end → IsRead b r → m.len ≡ length b → m.kind ≡ f.kind → m.ds64 ≡ ds → m.parts.items ≡ r.parts.items
    → m.fields ≡ r.fields → m.sound ≡ r.sound → m.align ≡ r.align → IsMapOf b m
map_is b f m r ds front form read len kind sizes parts fs sound align = record {
  supported = why_chunks b f ds m.form_end front form ∙ read.tests;
  len = len;
  kind = kind ∙ front.kind;
  form_end = form.size;
  sizes = subst (HasSizes b) (sym sizes) form.has;
  parts = parts ∙ read.parts;
  field_values = λ n. ap (λ (es : List Entry). values es n) fs ∙ read.grown n;
  sound = ap (λ (x : Span). x ∷ []) sound ∙ read.sounds;
  align = ap (λ (x : ℕ). x ∷ []) align ∙ read.formats;
}

-- ---- answers handed on

pub sizes_hand : (b : List ℕ) (big : Bool) (fault : ReadFault) → big ≡ true → ReadsSizes b (Err fault) → ReadsForm b big (Err fault)
sizes_hand b big (Fault.Why w) e h = ap (λ (t : Bool). ds64_why t b) e ∙ h
sizes_hand b big Fault.Depot e h = tt
sizes_hand b big Fault.Memory e h = tt
