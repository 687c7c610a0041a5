-- The forms of a supported file: what is read of its bytes spells them, and is as well formed as it can be.
use Rattle.std.proofs.Common.{◌≡◌, ℕ, ◌^◌, ◌<◌, ◌≤◌, Bool, true, false, leb, List, [], ◌∷◌, ◌++◌, length, take, drop, refl, sym, ap, subst, ◌∙◌, append_assoc, arith}
use Rattle.std.specs.Prelude.{◌&&◌, codes}
use Rattle.std.specs.Str.{bytes_eq}
use Rattle.std.specs.Int.{w32, from_le_bytes}
use Rattle.std.specs.List.{AllByRecursion}
use Rattle.std.proofs.lemmas.Bool.{and_parts, leb-true, le-ltb}
use Rattle.std.proofs.lemmas.List.{length-append, length-take, take-append-drop, take-append-le}
use Rattle.std.proofs.lemmas.Slice.Eq.{bytes_eq-Decides}
use Rattle.container_model.specs.Chunk.{Form, riff, Chunk, header_bytes, spell, spell_all, too_short, full_header, GivesBack, ends, chunks, PadStands, Stands, Reads, Pads}
use Rattle.container_model.specs.Sizes.{plain, riff_front, riff_ahead}
use Rattle.container_model.proofs.Codec.{IsBytes, IsBytes-drop, IsBytes-behind, chunks_joined, chunks_read, chunks_pads}
use Rattle.container_model.proofs.Fronts.{IsBytes-take, riff_gives_back}
use Rattle.container_model.proofs.Plain.{plain_chunks, plain_left}
use Rattle.carrier_model.specs.Info.{list_run}
use Rattle.avi_model.specs.Avi.{form_type, avi_by, avi_front, forms, Avi, inner, form_of, spell_avi, first_body, first_pad, but_first, avi_of}
use Rattle.avi_model.specs.Support.{begins, Supported}
use Rattle.avi_model.proofs.Read.{IsForm, Others, Readable}

pub le32_small : (b : List ℕ) → IsBytes b → from_le_bytes w32 b < 2 ^ 32
le32_small b h = omega (arith, h 0, h 1, h 2, h 3)

-- ---- one form

-- a header that is read
pub record FormHead (s : Bool) (b : List ℕ) (form : Form) (id : List ℕ) (n : ℕ) (after : List ℕ) (next : Bool) : Type 0 where
  pub form_is : form ≡ riff
  pub id_is : id ≡ codes "RIFF"
  pub number : n ≡ from_le_bytes w32 (take 4 (drop 4 b))
  pub id_there : id ≡ take 4 b
  pub after_is : after ≡ drop 8 b
  pub type_is : take 4 after ≡ form_type s
  pub next_is : next ≡ false
  pub long : 12 ≤ length b

pub form_head : (s next : Bool) (b id after : List ℕ) (form : Form) (n : ℕ) → avi_front s b ≡ full_header form id n after next → FormHead s b form id n after next
form_head s next b id after form n = go (leb 12 (length b) && (bytes_eq (take 4 b) (codes "RIFF") && bytes_eq (take 4 (drop 8 b)) (form_type s))) refl
  where
    go : (t : Bool) → (leb 12 (length b) && (bytes_eq (take 4 b) (codes "RIFF") && bytes_eq (take 4 (drop 8 b)) (form_type s))) ≡ t → avi_by b t ≡ full_header form id n after next → FormHead s b form id n after next
    go false t e = absurd cc
    go true t e =
        let one = and_parts (leb 12 (length b)) _ t in
        let two = and_parts (bytes_eq (take 4 b) (codes "RIFF")) _ one.1 in
        let id_is : id ≡ take 4 b = cc in
        let after_is : after ≡ drop 8 b = cc in
        record {
          form_is = cc;
          id_is = id_is ∙ (bytes_eq-Decides (take 4 b) (codes "RIFF")).0 two.0;
          number = cc;
          id_there = id_is;
          after_is = after_is;
          type_is = ap (take 4) after_is ∙ (bytes_eq-Decides (take 4 (drop 8 b)) (form_type s)).0 two.1;
          next_is = cc;
          long = leb-true 12 (length b) one.0;
        }

pub avi_gives_back : GivesBack avi_front
avi_gives_back s next b id after form n bytes e =
    let h = form_head s next b id after form n e in
    let eight : riff_front plain b ≡ full_header riff (take 4 b) (from_le_bytes w32 (take 4 (drop 4 b))) (drop 8 b) plain = ap (riff_ahead plain b) (le-ltb (length b) 8 (omega (arith, h.long))) in
    riff_gives_back plain plain b (take 4 b) (drop 8 b) riff (from_le_bytes w32 (take 4 (drop 4 b))) bytes eight
    ∙ ap (λ (f : Form). header_bytes f (take 4 b) (from_le_bytes w32 (take 4 (drop 4 b))) ++ drop 8 b) (sym h.form_is)
    ∙ ap (λ (x : List ℕ). header_bytes form x (from_le_bytes w32 (take 4 (drop 4 b))) ++ drop 8 b) (sym h.id_there)
    ∙ ap (λ (k : ℕ). header_bytes form id k ++ drop 8 b) (sym h.number)
    ∙ ap (λ (x : List ℕ). header_bytes form id n ++ x) (sym h.after_is)

form_is : (s next : Bool) (c : Chunk) (more : List ℕ) → IsBytes (spell c ++ more) → 4 ≤ length c.body → Stands avi_front s next c more → IsForm s c × (next ≡ false)
form_is s next c more bytes long h =
    let b = spell c ++ more in
    let x = form_head s next b c.id (c.body ++ (c.pad ++ more)) c.form (length c.body) h.header_read in
    let small : length c.body < 2 ^ 32 = omega (arith, x.number, le32_small (take 4 (drop 4 b)) (IsBytes-take 4 (drop 4 b) (IsBytes-drop 4 b bytes))) in
    (record { form_is = x.form_is; id_is = x.id_is; type_is = sym (take-append-le 4 c.body (c.pad ++ more) long) ∙ x.type_is; long = long; small = small }, x.next_is)

-- ---- all forms

abbrev AllLong : List Chunk → Type 0
AllLong cs = AllByRecursion (λ c. 4 ≤ length c.body) cs

others_from : (s : Bool) → s ≡ false → (cs : List Chunk) (left : List ℕ) → IsBytes (spell_all cs ++ left) → AllLong cs → Reads avi_front s cs left → Others cs × Pads cs left × (avi_front false left ≡ too_short)
others_from s e [] left bytes l r = (tt, tt, rw e at r)
others_from s e (c ∷ cs) left bytes l r =
    let split : (spell c ++ spell_all cs) ++ left ≡ spell c ++ (spell_all cs ++ left) = append_assoc (spell c) (spell_all cs) left in
    let b : IsBytes (spell c ++ (spell_all cs ++ left)) = rw split at bytes in
    let one = form_is s r.0 c (spell_all cs ++ left) b l.0 r.1 in
    let here : IsForm false c = rw e at one.0 in
    let more = others_from r.0 one.1 cs left (IsBytes-behind (spell c) (spell_all cs ++ left) b) l.1 r.2 in
    ((here, more.0), (r.1.padded, more.1), more.2)

abbrev avi_from : List Chunk → List ℕ → Avi
avi_from cs left = record {
  children = (chunks riff_front plain (drop 4 (first_body cs))).chunks;
  left = (chunks riff_front plain (drop 4 (first_body cs))).left;
  pad = first_pad cs;
  others = but_first cs;
  tail = left;
}

-- what is read of the first forms and a tail
pub record IsRead (b : List ℕ) (a : Avi) : Type 0 where
  pub spelled : b ≡ spell_avi a
  pub readable : Readable a

pub IsBytes-front : (a b : List ℕ) → IsBytes (a ++ b) → IsBytes a
IsBytes-front a b h = let e : take (length a) (a ++ b) ≡ a = Rattle.std.proofs.lemmas.List.take_at a b (length a) refl in rw e at (IsBytes-take (length a) (a ++ b) h)

-- the parts of a chunk's bytes
pub body_bytes : (c : Chunk) (more : List ℕ) → IsBytes (spell c ++ more) → IsBytes c.body
body_bytes c more h = IsBytes-front c.body c.pad (IsBytes-behind (header_bytes c.form c.id (length c.body)) (c.body ++ c.pad) (IsBytes-front (spell c) more h))

first_read : (cs : List Chunk) (left : List ℕ) → 0 < length cs → IsBytes (spell_all cs ++ left) → AllLong cs → AllByRecursion (λ c. (list_run c).stop ≡ ends) cs → Reads avi_front true cs left → IsRead (spell_all cs ++ left) (avi_from cs left)
first_read [] left some bytes l ends_ r = absurd (omega arith)
first_read (c ∷ cs) left some bytes l stops r =
    let split : (spell c ++ spell_all cs) ++ left ≡ spell c ++ (spell_all cs ++ left) = append_assoc (spell c) (spell_all cs) left in
    let b : IsBytes (spell c ++ (spell_all cs ++ left)) = rw split at bytes in
    let one = form_is true r.0 c (spell_all cs ++ left) b l.0 r.1 in
    let more = others_from r.0 one.1 cs left (IsBytes-behind (spell c) (spell_all cs ++ left) b) l.1 r.2 in
    let own = body_bytes c (spell_all cs ++ left) b in
    let rest = drop 4 c.body in
    let rest_bytes = IsBytes-drop 4 c.body own in
    let run = chunks riff_front plain rest in
    let whole : c.body ≡ inner run.chunks run.left = sym (take-append-drop 4 c.body) ∙ ap (λ (x : List ℕ). x ++ rest) one.0.type_is ∙ ap (λ (x : List ℕ). codes "AVI " ++ x) (sym (chunks_joined riff_front riff_gives_back plain rest rest_bytes)) in
    let size : length (inner run.chunks run.left) ≡ length c.body = ap length (sym whole) in
    let same : spell c ≡ spell (form_of (avi_from (c ∷ cs) left))
    = ap (λ (f : Form). header_bytes f c.id (length c.body) ++ (c.body ++ c.pad)) one.0.form_is ∙ ap (λ (x : List ℕ). header_bytes riff x (length c.body) ++ (c.body ++ c.pad)) one.0.id_is
    ∙ ap (λ (x : List ℕ). header_bytes riff (codes "RIFF") (length x) ++ (x ++ c.pad)) whole in
    record {
      spelled = split ∙ ap (λ (x : List ℕ). x ++ (spell_all cs ++ left)) same;
      readable = record {
        plain_chunks = plain_chunks rest;
        pads = chunks_pads riff_front riff_gives_back plain rest rest_bytes;
        few_left = plain_left rest stops.0;
        form_pad = subst (λ (k : ℕ). PadStands riff k c.pad (spell_all cs ++ left)) (sym size) (subst (λ (f : Form). PadStands f (length c.body) c.pad (spell_all cs ++ left)) one.0.form_is r.1.padded);
        small = omega (arith, size, one.0.small);
        others_are = more.0;
        others_pads = more.1;
        no_form = more.2;
      };
    }

some_form : (b : List ℕ) → IsBytes b → begins b ≡ true → (forms b).stop ≡ ends → 0 < length (forms b).chunks
some_form b bytes h e = go (forms b).chunks (forms b).left (chunks_joined avi_front avi_gives_back true b bytes) (chunks_read avi_front avi_gives_back true b bytes e)
  where
    go : (cs : List Chunk) (left : List ℕ) → spell_all cs ++ left ≡ b → Reads avi_front true cs left → 0 < length cs
    go [] left j r =
        let none : avi_front true b ≡ too_short = rw j at r in
        let found : avi_front true b ≡ full_header riff (take 4 b) (from_le_bytes w32 (take 4 (drop 4 b))) (drop 8 b) false = ap (avi_by b) h in
        absurd cc
    go (c ∷ cs) left j r = omega arith

-- A supported file is spelled by what is read of it.
pub file_read : (b : List ℕ) → IsBytes b → Supported b → IsRead b (avi_of b)
file_read b bytes s =
    let j : spell_all (forms b).chunks ++ (forms b).left ≡ b = chunks_joined avi_front avi_gives_back true b bytes in
    let h = first_read (forms b).chunks (forms b).left (some_form b bytes s.is_avi s.forms_end) (rw j bytes) s.forms_long s.forms_read (chunks_read avi_front avi_gives_back true b bytes s.forms_end) in
    record { spelled = sym j ∙ h.spelled; readable = h.readable }
