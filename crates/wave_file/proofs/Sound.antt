-- The block size and the sound, one chunk more.
use Rattle.std.proofs.Common.{◌≡◌, ◌∙◌, ℕ, ◌+◌, ◌-◌, ◌≤◌, Bool, true, false, ltb, List, [], ◌∷◌, ◌++◌, length, map, take, drop, refl, sym, ap, arith}
use Rattle.std.specs.Prelude.{Option, Some, None, if◌then◌else◌, codes, ◌&&◌, nat_lt, is_some}
use Rattle.std.specs.Str.{bytes_eq}
use Rattle.std.proofs.lemmas.Bool.{lt-ltb, le-ltb}
use Rattle.std.proofs.lemmas.List.{append-nil, drop-take, take-take, drop-drop}
use Rattle.part_tree.specs.declared.names.Span.{Span}
use Rattle.part_tree.specs.declared.why.Why.{Why}
use Rattle.part_tree.specs.declared.why.Why.TheVariants.{BlockZero, TwoData}
use Rattle.part_tree.proofs.Places.{bytes_same}
use Rattle.container_model.specs.Chunk.{Chunk}
use Rattle.container_model.specs.Items.{listed}
use Rattle.container_model.specs.Written.{slice}
use Rattle.wave_model.specs.Fields.{body_in}
use Rattle.wave_model.specs.Edited.{block_size}
use Rattle.wave_model.specs.Why.{is_fmt, is_data}
use Rattle.container_model.specs.Tests.{first}
use Rattle.wave_file.specs.Map.{sound_at}
use Rattle.wave_file.specs.Tests.{essence_tests}
use Rattle.wave_file.specs.Reads.{seen_of, AddsSound, Ends}
use Rattle.wave_file.specs.declared.chunk.Reading.{Reading}

-- a range in a range
pub slice_in : (b : List ℕ) (at len m n : ℕ) → m + n ≤ len → take n (drop m (slice b at len)) ≡ slice b (at + m) n
slice_in b at len m n le =
    let split : len ≡ m + (len - m) = omega arith in
    ap (λ (k : ℕ). take n (drop m (take k (drop at b)))) split
    ∙ ap (take n) (drop-take m (len - m) (drop at b))
    ∙ take-take n (len - m) (drop m (drop at b)) (omega arith)
    ∙ ap (take n) (drop-drop m at b)
    ∙ ap (λ (k : ℕ). take n (drop k b)) (omega arith)

two_false : (a b : Bool) (v w : Why) → a ≡ false → b ≡ false → first ((a, v) ∷ ((b, w) ∷ [])) ≡ None
two_false a b v w e f = rw (e, f) refl

first_true : (a b : Bool) (v w : Why) → a ≡ true → first ((a, v) ∷ ((b, w) ∷ [])) ≡ Some v
first_true a b v w e = rw e refl

second_true : (a b : Bool) (v w : Why) → a ≡ false → b ≡ true → first ((a, v) ∷ ((b, w) ∷ [])) ≡ Some w
second_true a b v w e f = rw (e, f) refl

and_true : (a b : Bool) → a ≡ true → b ≡ true → (a && b) ≡ true
and_true true b e f = f
and_true false b e f = absurd cc

and_no : (a b : Bool) → (a ≡ true → b ≡ false) → (a && b) ≡ false
and_no true b h = h refl
and_no false b h = refl

pub some_above : {A : Type 0} (o : Option A) → is_some o ≡ nat_lt 0 (length (listed o))
some_above None = refl
some_above (Some x) = refl

pub none_listed : {A : Type 0} (o : Option A) → length (listed o) ≤ 0 → o ≡ None
none_listed None h = refl
none_listed (Some x) h = absurd (omega arith)

none_some : {A : Type 0} (o : Option A) → is_some o ≡ false → o ≡ None
none_some None h = refl
none_some (Some x) h = absurd cc

-- `fmt ` isn't `data`
format_no_sound : (c : Chunk) → is_fmt c ≡ true → is_data c ≡ false
format_no_sound c e = ap (bytes_eq (codes "data")) (sym (bytes_same (codes "fmt ") c.id e))

no_body : (p : Chunk → Bool) (c : Chunk) → p c ≡ false → body_in p c ≡ []
no_body p c e = ap (λ (t : Bool). if t then c.body ∷ [] else []) e

a_body : (p : Chunk → Bool) (c : Chunk) → p c ≡ true → body_in p c ≡ c.body ∷ []
a_body p c e = ap (λ (t : Bool). if t then c.body ∷ [] else []) e

no_sound : (c : Chunk) (at : ℕ) → is_data c ≡ false → sound_at at c ≡ []
no_sound c at e = ap (λ (t : Bool). if t then record { at = at + 8; len = length c.body } ∷ [] else []) e

a_sound : (c : Chunk) (at : ℕ) → is_data c ≡ true → sound_at at c ≡ record { at = at + 8; len = length c.body } ∷ []
a_sound c at e = ap (λ (t : Bool). if t then record { at = at + 8; len = length c.body } ∷ [] else []) e

stays : {A : Type 0} (xs ys : List A) → ys ≡ [] → xs ≡ xs ++ ys
stays xs ys e = sym (append-nil xs) ∙ ap (λ (z : List _). xs ++ z) (sym e)

pub block_zero : (c : Chunk) (r : Reading) (n : ℕ) → is_fmt c ≡ true → n ≡ block_size c.body → n ≡ 0 → first (essence_tests (seen_of r) c) ≡ Some BlockZero
block_zero c r n f e z =
    first_true (is_fmt c && nat_lt (block_size c.body) 1) (is_data c && nat_lt 0 (seen_of r).sounds) BlockZero TwoData (and_true (is_fmt c) (ltb (block_size c.body) 1) f (lt-ltb (block_size c.body) 1 (omega (arith, e, z))))

pub adds_format : (c : Chunk) (at : ℕ) (r : Reading) (n : ℕ) → is_fmt c ≡ true → r.align ≡ None → n ≡ block_size c.body → (n ≡ 0 → ⊥) → AddsSound c at r (record { align = Some n; sound = r.sound })
adds_format c at r n f none e some =
    let no = format_no_sound c f in
    record {
      tests = two_false (is_fmt c && nat_lt (block_size c.body) 1) (is_data c && nat_lt 0 (seen_of r).sounds) BlockZero TwoData
          (and_no (is_fmt c) (ltb (block_size c.body) 1) (λ _. le-ltb (block_size c.body) 1 (omega (arith, e, some)))) (and_no (is_data c) (ltb 0 (seen_of r).sounds) (λ is. absurd cc));
      formats = ap (λ (x : ℕ). x ∷ []) e ∙ ap (λ (bs : List (List ℕ)). map block_size bs) (sym (a_body is_fmt c f)) ∙ ap (λ (o : Option ℕ). listed o ++ map block_size (body_in is_fmt c)) (sym none);
      sounds = stays (listed r.sound) (sound_at at c) (no_sound c at no);
    }

pub two_sounds : (c : Chunk) (r : Reading) → is_fmt c ≡ false → is_data c ≡ true → is_some r.sound ≡ true → first (essence_tests (seen_of r) c) ≡ Some TwoData
two_sounds c r f d some =
    second_true (is_fmt c && nat_lt (block_size c.body) 1) (is_data c && nat_lt 0 (seen_of r).sounds) BlockZero TwoData (and_no (is_fmt c) (ltb (block_size c.body) 1) (λ is. absurd cc))
    (and_true (is_data c) (ltb 0 (seen_of r).sounds) d (sym (some_above r.sound) ∙ some))

pub adds_sound : (c : Chunk) (at : ℕ) (r : Reading) (s : Span) → is_fmt c ≡ false → is_data c ≡ true → is_some r.sound ≡ false → s ≡ record { at = at + 8; len = length c.body } → AddsSound c at r (record { align = r.align; sound = Some s })
adds_sound c at r s f d none e = record {
  tests = two_false (is_fmt c && nat_lt (block_size c.body) 1) (is_data c && nat_lt 0 (seen_of r).sounds) BlockZero TwoData (and_no (is_fmt c) (ltb (block_size c.body) 1) (λ is. absurd cc))
      (and_no (is_data c) (ltb 0 (seen_of r).sounds) (λ _. sym (some_above r.sound) ∙ none));
  formats = stays (listed r.align) (map block_size (body_in is_fmt c)) (ap (map block_size) (no_body is_fmt c f));
  sounds = ap (λ (x : Span). x ∷ []) e ∙ sym (a_sound c at d) ∙ ap (λ (o : Option Span). listed o ++ sound_at at c) (sym (none_some r.sound none));
}

pub adds_nothing : (c : Chunk) (at : ℕ) (r : Reading) → is_fmt c ≡ false → is_data c ≡ false → AddsSound c at r (record { align = r.align; sound = r.sound })
adds_nothing c at r f d = record {
  tests = two_false (is_fmt c && nat_lt (block_size c.body) 1) (is_data c && nat_lt 0 (seen_of r).sounds) BlockZero TwoData (and_no (is_fmt c) (ltb (block_size c.body) 1) (λ is. absurd cc))
      (and_no (is_data c) (ltb 0 (seen_of r).sounds) (λ is. absurd cc));
  formats = stays (listed r.align) (map block_size (body_in is_fmt c)) (ap (map block_size) (no_body is_fmt c f));
  sounds = stays (listed r.sound) (sound_at at c) (no_sound c at d);
}

pub ends_on : (a b : ℕ) (o : Option Span) → a ≤ b → Ends a o → Ends b o
ends_on a b None le h = tt
ends_on a b (Some s) le h = omega arith
