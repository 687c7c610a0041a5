-- An AVI file that is spelled is read again; so is one over which numbers are written.
use Rattle.std.proofs.Common.{◌≡◌, ℕ, ◌+◌, ◌^◌, ◌<◌, ◌≤◌, Bool, true, false, leb, List, [], ◌∷◌, ◌++◌, length, take, drop, refl, sym, ap, ◌∙◌, append_assoc, arith}
use Rattle.std.specs.Prelude.{◌&&◌, codes}
use Rattle.std.specs.Str.{bytes_eq}
use Rattle.std.specs.Int.{w32, to_le_bytes, from_le_bytes}
use Rattle.std.specs.List.{AllByRecursion}
use Rattle.std.proofs.lemmas.Bool.{le-leb}
use Rattle.std.proofs.lemmas.Nat.{from_le_bytes-to_le_bytes_4}
use Rattle.std.proofs.lemmas.List.{length-append, take-append-le}
use Rattle.std.proofs.lemmas.Slice.Eq.{bytes_eq-Decides}
use Rattle.container_model.specs.Chunk.{riff, Chunk, spell, spell_all, too_short, full_header, Run, ends, chunks, PadStands, Reads, Pads}
use Rattle.container_model.specs.Sizes.{plain, riff_front}
use Rattle.container_model.specs.Written.{Write, written}
use Rattle.container_model.proofs.Codec.{chunks_spelled}
use Rattle.container_model.proofs.Plain.{ArePlain, plain_again}
use Rattle.container_model.proofs.Written.{Misses, Avoids, renewed, written-append, written_chunks, written_clear, renewed_length}
use Rattle.avi_model.specs.Avi.{form_type, avi_by, avi_front, forms, Avi, inner, form_of, behind, spell_avi, first_body, first_pad, but_first, form_run, avi_of}

-- ---- forms

pub record IsForm (s : Bool) (c : Chunk) : Type 0 where
  pub form_is : c.form ≡ riff
  pub id_is : c.id ≡ codes "RIFF"
  pub type_is : take 4 c.body ≡ form_type s
  pub long : 4 ≤ length c.body
  pub small : length c.body < 2 ^ 32

form_bytes : (s : Bool) (n : ℕ) (body pad more : List ℕ) → n ≡ length body → take 4 body ≡ form_type s → 4 ≤ length body → n < 2 ^ 32
    → avi_front s (((codes "RIFF" ++ to_le_bytes w32 n) ++ (body ++ pad)) ++ more) ≡ full_header riff (codes "RIFF") n (body ++ (pad ++ more)) false
form_bytes s n body pad more e t l lt =
    let b = ((codes "RIFF" ++ to_le_bytes w32 n) ++ (body ++ pad)) ++ more in
    let long : leb 12 (length b) ≡ true = le-leb 12 (length b) (omega (arith, length-append ((codes "RIFF" ++ to_le_bytes w32 n) ++ (body ++ pad)) more, length-append (codes "RIFF" ++ to_le_bytes w32 n) (body ++ pad), length-append body pad, l)) in
    let rest : drop 8 b ≡ body ++ (pad ++ more) = simp append_assoc in
    let type : take 4 (drop 8 b) ≡ form_type s = ap (take 4) rest ∙ take-append-le 4 body (pad ++ more) l ∙ t in
    let same : bytes_eq (take 4 (drop 8 b)) (form_type s) ≡ true = ap (λ (x : List ℕ). bytes_eq x (form_type s)) type ∙ (bytes_eq-Decides (form_type s) (form_type s)).1 refl in
    let size : from_le_bytes w32 (take 4 (drop 4 b)) ≡ n = from_le_bytes-to_le_bytes_4 n lt in
    let found : (leb 12 (length b) && (true && bytes_eq (take 4 (drop 8 b)) (form_type s))) ≡ true = rw (long, same) refl in
    ap (avi_by b) found ∙ ap (λ (k : ℕ). full_header riff (codes "RIFF") k (drop 8 b) false) size ∙ ap (λ (x : List ℕ). full_header riff (codes "RIFF") n x false) rest

form_head : (s : Bool) (c : Chunk) (more : List ℕ) → IsForm s c → avi_front s (spell c ++ more) ≡ full_header c.form c.id (length c.body) (c.body ++ (c.pad ++ more)) false
form_head s c more h = rw (h.form_is, h.id_is) (form_bytes s (length c.body) c.body c.pad more refl h.type_is h.long h.small)

-- the further forms, with their pads
abbrev pub Others : List Chunk → Type 0
Others cs = AllByRecursion (IsForm false) cs

others_read : (cs : List Chunk) (tail : List ℕ) → Others cs → Pads cs tail → avi_front false tail ≡ too_short → Reads avi_front false cs tail
others_read [] tail h p t = t
others_read (c ∷ cs) tail h p t = (false, record { header_read = form_head false c (spell_all cs ++ tail) h.0; padded = p.0 }, others_read cs tail h.1 p.1 t)

pub record Readable (a : Avi) : Type 0 where
  pub plain_chunks : ArePlain a.children
  pub pads : Pads a.children a.left
  pub few_left : length a.left < 8
  pub form_pad : PadStands riff (length (inner a.children a.left)) a.pad (behind a)
  pub small : length (inner a.children a.left) < 2 ^ 32
  pub others_are : Others a.others
  pub others_pads : Pads a.others a.tail
  pub no_form : avi_front false a.tail ≡ too_short

pub forms_again : (a : Avi) → Readable a → forms (spell_avi a) ≡ record { chunks = form_of a ∷ a.others; stop = ends; left = a.tail }
forms_again a h =
    let c = form_of a in
    let first : IsForm true c = record { form_is = refl; id_is = refl; type_is = refl; long = omega arith; small = h.small } in
    let reads : Reads avi_front true (c ∷ a.others) a.tail = (false, record { header_read = form_head true c (spell_all a.others ++ a.tail) first; padded = h.form_pad }, others_read a.others a.tail h.others_are h.others_pads h.no_form) in
    ap (chunks avi_front true) (sym (append_assoc (spell c) (spell_all a.others) a.tail)) ∙ chunks_spelled avi_front true (c ∷ a.others) a.tail reads

abbrev made_avi : Run → Run → Avi
made_avi t r = record { children = r.chunks; left = r.left; pad = first_pad t.chunks; others = but_first t.chunks; tail = t.left }

pub avi_again : (a : Avi) → Readable a → avi_of (spell_avi a) ≡ a
avi_again a h =
    let t = forms_again a h in
    let long = length-append (spell_all a.children) a.left in
    let run : form_run (spell_avi a) ≡ record { chunks = a.children; stop = ends; left = a.left }
    = ap (λ (r : Run). chunks riff_front plain (drop 4 (first_body r.chunks))) t ∙ plain_again a.children a.left h.plain_chunks h.pads h.few_left (omega (arith, h.small)) in
    ap (λ (x : Run). made_avi x (form_run (spell_avi a))) t ∙ ap (made_avi (record { chunks = form_of a ∷ a.others; stop = ends; left = a.tail })) run

-- ---- what is written into bodies

abbrev pub others_place : Avi → ℕ
others_place a = length (spell (form_of a))

abbrev pub renewed_avi : List Write → Avi → Avi
renewed_avi ws a = record a { children = renewed ws 12 a.children; others = renewed ws (others_place a) a.others }

-- no write touches a header, a type, a pad or a rest
pub record Frames (ws : List Write) (a : Avi) : Type 0 where
  pub on_head : AllByRecursion (Misses 0 12) ws
  pub on_children : AllByRecursion (Avoids 12 a.children a.left) ws
  pub on_pad : AllByRecursion (Misses (8 + length (inner a.children a.left)) (length a.pad)) ws
  pub on_others : AllByRecursion (Avoids (others_place a) a.others a.tail) ws

inner_length : (ws : List Write) (a : Avi) → length (inner (renewed ws 12 a.children) a.left) ≡ length (inner a.children a.left)
inner_length ws a = omega (arith, length-append (spell_all (renewed ws 12 a.children)) a.left, length-append (spell_all a.children) a.left, renewed_length ws 12 a.children)

four_parts : {a e b f c g d h : List ℕ} → a ≡ e → b ≡ f → c ≡ g → d ≡ h → a ++ (b ++ (c ++ d)) ≡ e ++ (f ++ (g ++ h))
four_parts {a} {e} {b} {f} {c} {g} {d} {h} w x y z = ap (λ (k : List ℕ). k ++ (b ++ (c ++ d))) w ∙ ap (λ (k : List ℕ). e ++ (k ++ (c ++ d))) x ∙ ap (λ (k : List ℕ). e ++ (f ++ (k ++ d))) y ∙ ap (λ (k : List ℕ). e ++ (f ++ (g ++ k))) z

pub written_avi : (ws : List Write) (a : Avi) → Frames ws a → written ws 0 (spell_avi a) ≡ spell_avi (renewed_avi ws a)
written_avi ws a h =
    let n = length (inner a.children a.left) in
    let head = (codes "RIFF" ++ to_le_bytes w32 n) ++ codes "AVI " in
    let kids = spell_all a.children ++ a.left in
    let rest = spell_all a.others ++ a.tail in
    let split : spell_avi a ≡ head ++ (kids ++ (a.pad ++ rest)) = simp append_assoc in
    let len : 12 + length kids ≡ 8 + n = omega arith in
    let far : (8 + n) + length a.pad ≡ others_place a = omega (arith, length-append (inner a.children a.left) a.pad) in
    let one : written ws 0 head ≡ head = written_clear ws 0 head h.on_head in
    let two : written ws 12 kids ≡ spell_all (renewed ws 12 a.children) ++ a.left = written_chunks ws 12 a.children a.left h.on_children in
    let three : written ws (8 + n) a.pad ≡ a.pad = written_clear ws (8 + n) a.pad h.on_pad in
    let four : written ws (others_place a) rest ≡ spell_all (renewed ws (others_place a) a.others) ++ a.tail = written_chunks ws (others_place a) a.others a.tail h.on_others in
    let parts : written ws 0 (head ++ (kids ++ (a.pad ++ rest))) ≡ written ws 0 head ++ (written ws 12 kids ++ (written ws (8 + n) a.pad ++ written ws (others_place a) rest))
    = written-append ws 0 head (kids ++ (a.pad ++ rest))
    ∙ ap (λ (x : List ℕ). written ws 0 head ++ x) (written-append ws 12 kids (a.pad ++ rest) ∙ ap (λ (k : ℕ). written ws 12 kids ++ written ws k (a.pad ++ rest)) len ∙ ap (λ (x : List ℕ). written ws 12 kids ++ x) (written-append ws (8 + n) a.pad rest ∙ ap (λ (k : ℕ). written ws (8 + n) a.pad ++ written ws k rest) far)) in
    let new : spell_avi (renewed_avi ws a) ≡ head ++ ((spell_all (renewed ws 12 a.children) ++ a.left) ++ (a.pad ++ (spell_all (renewed ws (others_place a) a.others) ++ a.tail)))
    = ap (λ (k : ℕ). ((codes "RIFF" ++ to_le_bytes w32 k) ++ (inner (renewed ws 12 a.children) a.left ++ a.pad)) ++ (spell_all (renewed ws (others_place a) a.others) ++ a.tail)) (inner_length ws a) ∙ simp append_assoc in
    ap (written ws 0) split ∙ parts ∙ four_parts one two three four ∙ sym new
