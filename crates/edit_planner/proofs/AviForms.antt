-- The first form of a file as it is read by the file's map.
use Rattle.std.proofs.Common.{◌≡◌, ◌∙◌, ◌≤◌, ◌<◌, ℕ, suc, ◌+◌, ◌%◌, Bool, true, false, List, [], ◌∷◌, ◌++◌, length, map, drop, refl, sym, ap, arith, subst}
use Rattle.std.specs.Prelude.{Option, Some, None, codes}
use Rattle.std.specs.Int.{w32, to_le_bytes}
use Rattle.std.specs.List.{AllByRecursion}
use Rattle.std.proofs.lemmas.List.{length-append, length-drop}
use Rattle.part_tree.specs.declared.names.Span.{Span}
use Rattle.part_tree.specs.declared.part.Part.{Part}
use Rattle.part_tree.specs.declared.part.Role.{Role}
use Rattle.container_model.specs.Chunk.{Chunk, Form, chunks, header_bytes, pad_len, read, spell_all}
use Rattle.container_model.specs.Sizes.{plain, riff_front}
use Rattle.carrier_model.specs.Info.{is_type}
use Rattle.container_model.specs.Stood.{Stood, first_of, only, stood}
use Rattle.container_model.proofs.Plain.{ArePlain, IsPlain, plain_chunks}
use Rattle.avi_model.specs.Avi.{avi_of, body_span, first_body, forms, inner, top}
use Rattle.avi_model.specs.Map.{form_spans, parts_of}
use Rattle.avi_model.specs.Support.{Supported}
use Rattle.avi_model.specs.Why.{why_named}
use Rattle.avi_model.proofs.NamesExact.{names_exact}
use Rattle.avi_file.specs.Map.{IsMapOf}
use Rattle.avi_file.specs.declared.map.AviMap.{AviMap}
use Rattle.avi_model.proofs.Homes.{AllHome, AtHome, top_home}
use Rattle.edit_planner.specs.Avi.{TellsForm}
use Rattle.edit_planner.specs.Stand.{StandFrom, StandsAt, parts_from}
use Rattle.edit_planner.specs.Tops.{IsRiff, avi_role, first_len, head_from, others, tops}
use Rattle.edit_planner.specs.declared.avi.AviForm.{AviForm}
use Rattle.edit_planner.specs.declared.head.Head.{Head}
use Rattle.edit_planner.proofs.AviTops.{others_told, run_long, tops_told}

-- ---- a supported file

pub supported_by : (b : List ℕ) → why_named b ≡ None → Supported b
supported_by b fine = ((names_exact b).0 fine).file

-- ---- where the chunks of its first form stand

pub are_plain : (b : List ℕ) → ArePlain (avi_of b).children
are_plain b = plain_chunks (drop 4 (first_body (forms b).chunks))

riff_all : (cs : List Chunk) → ArePlain cs → AllByRecursion IsRiff cs
riff_all [] h = tt
riff_all (c ∷ cs) h = (record { form_is = h.0.form_is; id_len = h.0.id_len }, riff_all cs h.1)

pub are_riff : (b : List ℕ) → AllByRecursion IsRiff (avi_of b).children
are_riff b = riff_all (avi_of b).children (are_plain b)

stand_home : (b : List ℕ) (at : ℕ) (cs : List Chunk) → ArePlain cs → AllHome b (stood at cs) → StandFrom b at cs
stand_home b at [] h g = tt
stand_home b at (c ∷ cs) h g = (
  record {
    header = ap (λ (f : Form). length (header_bytes f c.id (length c.body))) h.0.form_is ∙ omega (arith, h.0.id_len, length-append c.id (to_le_bytes w32 (length c.body)));
    padded = ap (λ (f : Form). pad_len f (length c.body)) h.0.form_is;
    body = g.0.body;
  },
  stand_home b (at + length (Rattle.container_model.specs.Chunk.spell c)) cs h.1 g.1,
)

pub children_stand : (b : List ℕ) → StandFrom b 12 (avi_of b).children
children_stand b = stand_home b 12 (avi_of b).children (are_plain b) (top_home b)

-- ---- how long it is

first_size : (b : List ℕ) (cs : List Chunk) → AllByRecursion (λ c. 4 ≤ length c.body) cs → 0 < length cs
    → first_len (map body_span (stood 0 cs)) ≡ length (inner (chunks riff_front plain (drop 4 (first_body cs))).chunks (chunks riff_front plain (drop 4 (first_body cs))).left)
first_size b [] long some = absurd (omega arith)
first_size b (c ∷ cs) long some =
    let r = chunks riff_front plain (drop 4 c.body) in
    omega (arith, run_long (drop 4 c.body), length-drop 4 c.body, long.0, length-append (codes "AVI ") (spell_all r.chunks ++ r.left), length-append (spell_all r.chunks) r.left)

some_there : (cs : List Chunk) → 0 < length (first_of (only (is_type (codes "hdrl")) (stood 12 (chunks riff_front plain (drop 4 (first_body cs))).chunks))) → 0 < length cs
unfolding chunks read
some_there [] lt = absurd (omega (arith, lt))
some_there (c ∷ cs) lt = omega arith

-- ---- what is told of it

pub form_told : (b : List ℕ) (m : AviMap) (size : ℕ) (ps : List Part) (n : ℕ) (f : AviForm) → IsMapOf b m → size ≡ first_len m.forms.items → ps ≡ tops 12 m.parts.items → n ≡ others false 12 m.parts.items
    → f.form ≡ record { len = m.len; size = size; others = n } → f.chunks.items ≡ ps
    → ((role : ℕ → Chunk → Role) (cs : List Chunk) → ps ≡ parts_from role 12 cs → StandFrom b 12 cs → AllByRecursion IsRiff cs → Some f.head ≡ head_from 0 12 cs) → TellsForm b f
form_told b m size ps n f h s p o is chunks_are head =
    let sup = supported_by b h.supported in
    let parts : ps ≡ parts_from avi_role 12 (avi_of b).children = p ∙ ap (tops 12) h.parts ∙ tops_told b sup in
    let some : 0 < length (forms b).chunks = some_there (forms b).chunks sup.some_hdrl in
    record {
      form = subst (Rattle.avi_plan.specs.Form.IsFormOf b) (sym is) (record {
        supported = sup;
        len = h.len;
        size = s ∙ ap first_len h.forms ∙ first_size b (forms b).chunks sup.forms_long some;
        others = o ∙ ap (others false 12) h.parts ∙ others_told b sup;
      });
      chunks_are = chunks_are ∙ parts;
      head = sym (head avi_role (avi_of b).children parts (children_stand b) (are_riff b));
    }
