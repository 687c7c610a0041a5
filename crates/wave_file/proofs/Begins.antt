-- The first chunk of a form: `ds64`, where the form has it.
use Rattle.std.proofs.Common.{◌≡◌, ◌∙◌, ℕ, ◌+◌, ◌≤◌, Bool, true, false, List, [], ◌∷◌, ◌++◌, length, map, take, refl, sym, ap, arith, subst}
use Rattle.std.specs.Prelude.{Option, Some, None, if◌then◌else◌}
use Rattle.std.specs.declared.result.Result.TheVariants.{Err}
use Rattle.std.proofs.lemmas.List.{append-nil}
use Rattle.part_tree.specs.declared.names.FourCc.{FourCc}
use Rattle.part_tree.specs.declared.names.Span.{Span}
use Rattle.part_tree.specs.declared.part.Part.{Part}
use Rattle.part_tree.specs.declared.field.FieldName.{FieldName}
use Rattle.part_tree.specs.declared.fields.Entry.{Entry}
use Rattle.part_tree.specs.declared.why.ReadFault.{ReadFault}
use Rattle.part_tree.specs.declared.why.ReadFault.TheVariants as Fault
use Rattle.part_tree.specs.Fields.{values}
use Rattle.container_model.specs.Chunk.{Chunk, Run, Stop, and_then, stopped, spell, spell_all}
use Rattle.container_model.specs.Items.{listed}
use Rattle.container_model.specs.Walk.{along}
use Rattle.wave_model.specs.Wave.{is_big, wave_of, form_run, firsts, others}
use Rattle.wave_model.specs.Fields.{fields, fields_of}
use Rattle.wave_model.specs.Edited.{block_size, formats}
use Rattle.wave_model.specs.Why.{Seen, children_why, last_why, chunks_why, nothing_seen}
use Rattle.rf64_ds64.specs.declared.Ds64.{Ds64}
use Rattle.wave_file.specs.declared.chunk.Reading.{Reading}
use Rattle.wave_file.specs.declared.sizing.Sizing.{Sizing}
use Rattle.wave_file.specs.Map.{HasSizes, part_at, part_as, sizes_at, sound_at, all_parts, all_sounds}
use Rattle.wave_file.specs.Lawful.{HasNoKeys, HasRanges}
use Rattle.wave_file.specs.Reads.{IsForm, IsFresh, IsLeft, IsPartial, Begins, seen_of}
use Rattle.wave_file.specs.Sized.{StuckAt, all_taken, run_at, sizes_in, state_of}
use Rattle.wave_file.proofs.Left.{left_stuck}

abbrev run_from : List Chunk → Stop → List ℕ → Run
run_from cs stop over = record { chunks = cs; stop = stop; left = over }

abbrev seen_from : ℕ → ℕ → ℕ → ℕ → Seen
seen_from p f s b = record { parts = p; formats = f; sounds = s; bexts = b }

abbrev start : Bool → Run → ℕ
start t run = 12 + length (spell_all (firsts t run.chunks))

-- what is told of the whole form, by whether ds64 stands first in it
record Whole (b : List ℕ) (t : Bool) (run : Run) : Type 0 where
  tests : chunks_why b ≡ children_why (start t run) (nothing_seen (length (firsts t run.chunks))) (others t run.chunks) (last_why run.stop run.left)
  parts : all_parts (wave_of b) ≡ along sizes_at 12 (firsts t run.chunks) ++ along part_at (start t run) (others t run.chunks)
  grown : (n : FieldName) → fields b n ≡ fields_of (others t run.chunks) n
  formats : map block_size (formats (wave_of b).children) ≡ map block_size (Rattle.wave_model.specs.Edited.formats (others t run.chunks))
  sounds : all_sounds (wave_of b) ≡ along sound_at (start t run) (others t run.chunks)

whole_is : (b : List ℕ) (t : Bool) (run : Run) → is_big (take 4 b) ≡ t → form_run b ≡ run → Whole b t run
whole_is b t run e i = subst (λ (r : Run). Whole b t r) i (subst (λ (u : Bool). Whole b u (form_run b)) e (record {
  tests = refl;
  parts = ap (λ (n : ℕ). along sizes_at 12 (firsts (is_big (take 4 b)) (form_run b).chunks) ++ along part_at n (others (is_big (take 4 b)) (form_run b).chunks)) at;
  grown = λ n. refl;
  formats = refl;
  sounds = ap (λ (n : ℕ). along sound_at n (others (is_big (take 4 b)) (form_run b).chunks)) at;
}))
  where
    at : Rattle.wave_model.specs.New.children_at (wave_of b) ≡ start (is_big (take 4 b)) (form_run b)
    at = omega arith

fresh_seen : (r : Reading) (z : Sizing) (n : ℕ) → IsFresh r z → (record { parts = n; formats = length (listed r.align); sounds = length (listed r.sound); bexts = (seen_of r).bexts }) ≡ nothing_seen n
fresh_seen r z n fresh =
    ap (λ (o : Option ℕ). seen_from n (length (listed o)) (length (listed r.sound)) (seen_of r).bexts) fresh.align
    ∙ ap (λ (o : Option Span). seen_from n 0 (length (listed o)) (seen_of r).bexts) fresh.sound
    ∙ ap (λ (t : Bool). seen_from n 0 0 (if t then 1 else 0)) fresh.has_bext

-- no ds64: all chunks are left
pub left_whole : (b : List ℕ) (run : Run) (r : Reading) (z : Sizing) → is_big (take 4 b) ≡ false → form_run b ≡ run → IsFresh r z → IsLeft b run 12 r
left_whole b run r z big is fresh =
    let w = whole_is b false run big is in
    record {
      tests = w.tests ∙ ap (λ (s : Seen). children_why 12 s run.chunks (last_why run.stop run.left)) (sym (fresh_seen r z 0 fresh) ∙ ap (λ (n : ℕ). seen_from n (length (listed r.align)) (length (listed r.sound)) (seen_of r).bexts) (sym fresh.count));
      parts = ap (λ (x : List Part). x ++ along part_at 12 run.chunks) fresh.parts ∙ sym w.parts;
      grown = λ n. ap (λ (es : List Entry). values es n ++ fields_of run.chunks n) fresh.none ∙ sym (w.grown n);
      formats = ap (λ (o : Option ℕ). listed o ++ map block_size (formats run.chunks)) fresh.align ∙ sym w.formats;
      sounds = ap (λ (o : Option Span). listed o ++ along sound_at 12 run.chunks) fresh.sound ∙ sym w.sounds;
    }

-- a form without any chunk
pub left_none : (b : List ℕ) (run : Run) (r : Reading) (z : Sizing) → is_big (take 4 b) ≡ true → form_run b ≡ run → run.chunks ≡ [] → IsFresh r z → IsLeft b run 12 r
left_none b run r z big is none fresh =
    let bare : Run = record { chunks = []; stop = run.stop; left = run.left } in
    let same : run ≡ bare = ap (λ (cs : List Chunk). run_from cs run.stop run.left) none in
    let w = whole_is b true bare big (is ∙ same) in
    subst (λ (x : Run). IsLeft b x 12 r) (sym same) (record {
      tests = w.tests ∙ ap (λ (s : Seen). children_why 12 s [] (last_why run.stop run.left)) (sym (fresh_seen r z 0 fresh) ∙ ap (λ (n : ℕ). seen_from n (length (listed r.align)) (length (listed r.sound)) (seen_of r).bexts) (sym fresh.count));
      parts = ap (λ (x : List Part). x ++ []) fresh.parts ∙ sym w.parts;
      grown = λ n. ap (λ (es : List Entry). values es n ++ fields_of [] n) fresh.none ∙ sym (w.grown n);
      formats = ap (λ (o : Option ℕ). listed o ++ []) fresh.align ∙ sym w.formats;
      sounds = ap (λ (o : Option Span). listed o ++ []) fresh.sound ∙ sym w.sounds;
    })

-- ds64 is passed
pub left_first : (b : List ℕ) (run next : Run) (c : Chunk) (to : ℕ) (r s : Reading) (z : Sizing) → is_big (take 4 b) ≡ true → form_run b ≡ run → run ≡ and_then c next → 12 + length (spell c) ≡ to → IsFresh r z
    → s.count ≡ 1 → s.parts.items ≡ r.parts.items ++ sizes_at 12 c → s.fields ≡ r.fields → s.align ≡ r.align → s.sound ≡ r.sound → s.has_bext ≡ r.has_bext → IsLeft b next to s
left_first b run next c to r s z big is step place fresh count parts same align sound bext =
    let w = whole_is b true (and_then c next) big (is ∙ step) in
    let at : 12 + length (spell c ++ []) ≡ to = ap (λ (x : List ℕ). 12 + length x) (append-nil (spell c)) ∙ place in
    let seen : nothing_seen 1 ≡ seen_of s = sym (
    ap (λ (n : ℕ). seen_from n (length (listed s.align)) (length (listed s.sound)) (seen_of s).bexts) count
    ∙ ap (λ (o : Option ℕ). seen_from 1 (length (listed o)) (length (listed s.sound)) (seen_of s).bexts) align
    ∙ ap (λ (o : Option Span). seen_from 1 (length (listed r.align)) (length (listed o)) (seen_of s).bexts) sound
    ∙ ap (λ (t : Bool). seen_from 1 (length (listed r.align)) (length (listed r.sound)) (if t then 1 else 0)) bext
    ∙ fresh_seen r z 1 fresh
    ) in
    record {
      tests = w.tests
          ∙ ap (λ (k : ℕ). children_why k (nothing_seen 1) next.chunks (last_why next.stop next.left)) at
          ∙ ap (λ (x : Seen). children_why to x next.chunks (last_why next.stop next.left)) seen;
      parts = ap (λ (x : List Part). x ++ along part_at to next.chunks) (parts ∙ ap (λ (x : List Part). x ++ sizes_at 12 c) fresh.parts)
          ∙ ap (λ (k : ℕ). sizes_at 12 c ++ along part_at k next.chunks) (sym at) ∙ ap (λ (x : List Part). x ++ along part_at (12 + length (spell c ++ [])) next.chunks) (sym (append-nil (sizes_at 12 c))) ∙ sym w.parts;
      grown = λ n. ap (λ (es : List Entry). values es n ++ fields_of next.chunks n) (same ∙ fresh.none) ∙ sym (w.grown n);
      formats = ap (λ (o : Option ℕ). listed o ++ map block_size (formats next.chunks)) (align ∙ fresh.align) ∙ sym w.formats;
      sounds = ap (λ (o : Option Span). listed o ++ along sound_at to next.chunks) (sound ∙ fresh.sound) ∙ ap (λ (k : ℕ). along sound_at k next.chunks) (sym at) ∙ sym w.sounds;
    }

-- ---- the answers of the first step

pub fresh_state : (r : Reading) (z : Sizing) → IsFresh r z → state_of z ≡ sizes_in z.ds64
fresh_state r z fresh = ap (λ (ids : List FourCc). all_taken ids (sizes_in z.ds64)) fresh.wides

is_big_by : (b : List ℕ) (ds : Option Ds64) (d : Ds64) → ds ≡ Some d → HasSizes b ds → is_big (take 4 b) ≡ true
is_big_by b ds d e h = (subst (HasSizes b) e h).0

pub not_big : (b : List ℕ) (ds : Option Ds64) → ds ≡ None → HasSizes b ds → is_big (take 4 b) ≡ false
not_big b ds e h = subst (HasSizes b) e h

run_is : (b : List ℕ) (end : ℕ) (r : Reading) (z : Sizing) → IsForm b z.ds64 end → IsFresh r z → form_run b ≡ run_at (state_of z) b 12 end
run_is b end r z form fresh = form.run ∙ ap (λ s. run_at s b 12 end) (sym (fresh_state r z fresh))

pub begins_plain : (b : List ℕ) (end : ℕ) (r : Reading) (z : Sizing) → IsForm b z.ds64 end → IsFresh r z → z.ds64 ≡ None → IsLeft b (run_at (state_of z) b 12 end) 12 r
begins_plain b end r z form fresh none = left_whole b (run_at (state_of z) b 12 end) r z (not_big b z.ds64 none form.has) (run_is b end r z form fresh) fresh

pub begins_none : (b : List ℕ) (end : ℕ) (r : Reading) (z new : Sizing) (d : Ds64) (over : List ℕ) → IsForm b z.ds64 end → IsFresh r z → z.ds64 ≡ Some d → run_at (state_of z) b 12 end ≡ stopped Rattle.container_model.specs.Chunk.ends over
    → state_of new ≡ state_of z → IsLeft b (run_at (state_of new) b 12 end) 12 r
begins_none b end r z new d over form fresh some step same =
    subst (λ s. IsLeft b (run_at s b 12 end) 12 r) (sym same)
    (left_none b (run_at (state_of z) b 12 end) r z (is_big_by b z.ds64 d some form.has) (run_is b end r z form fresh) (ap (λ (x : Run). x.chunks) step) fresh)

pub begins_fails : (b : List ℕ) (end to : ℕ) (r s : Reading) (z new : Sizing) (d : Ds64) (fault : ReadFault) → IsForm b z.ds64 end → IsFresh r z → z.ds64 ≡ Some d → StuckAt b 12 end z fault → Begins b s to end new (Err fault)
begins_fails b end to r s z new d (Fault.Why w) form fresh some stuck =
    left_stuck b (run_at (state_of z) b 12 end) 12 r w (left_none b (run_at (state_of z) b 12 end) r z (is_big_by b z.ds64 d some form.has) (run_is b end r z form fresh) stuck.none fresh) stuck
begins_fails b end to r s z new d Fault.Depot form fresh some stuck = tt
begins_fails b end to r s z new d Fault.Memory form fresh some stuck = tt

pub begins_first : (b : List ℕ) (end to : ℕ) (c : Chunk) (next : Run) (r s : Reading) (z : Sizing) (d : Ds64) → IsForm b z.ds64 end → IsFresh r z → z.ds64 ≡ Some d → run_at (state_of z) b 12 end ≡ and_then c next → 12 + length (spell c) ≡ to
    → s.count ≡ 1 → s.parts.items ≡ r.parts.items ++ sizes_at 12 c → s.fields ≡ r.fields → s.align ≡ r.align → s.sound ≡ r.sound → s.has_bext ≡ r.has_bext → IsLeft b next to s
begins_first b end to c next r s z d form fresh some step place = left_first b (run_at (state_of z) b 12 end) next c to r s z (is_big_by b z.ds64 d some form.has) (run_is b end r z form fresh) step place fresh

fresh_ranges : (r : Reading) (z : Sizing) → IsFresh r z → HasRanges r.has_bext r.fields
fresh_ranges r z fresh = subst (λ (t : Bool). HasRanges t r.fields) (sym fresh.has_bext) (subst (λ (es : List Entry). HasRanges false es) (sym fresh.none) (λ f. refl))

fresh_keys : (r : Reading) (z : Sizing) → IsFresh r z → HasNoKeys r.fields
fresh_keys r z fresh = subst HasNoKeys (sym fresh.none) (λ name. refl)

pub fresh_partial : (r : Reading) (z : Sizing) → IsFresh r z → IsPartial r 12
fresh_partial r z fresh = record {
  few = omega (arith, fresh.count);
  ascends = subst (λ (ps : List Part). Rattle.wave_file.specs.Map.Ascend 12 ps 12) (sym fresh.parts) (omega arith);
  sound = subst (λ (o : Option Span). Rattle.wave_file.specs.Reads.Ends 12 o) (sym fresh.sound) tt;
  ranges = fresh_ranges r z fresh;
  keys = fresh_keys r z fresh;
}

pub first_partial : (r s : Reading) (z : Sizing) (p : Part) (to : ℕ) → IsFresh r z → s.count ≡ 1 → s.parts.items ≡ r.parts.items ++ p ∷ [] → s.fields ≡ r.fields → s.sound ≡ r.sound → s.has_bext ≡ r.has_bext
    → 12 ≤ p.at → p.body.at ≡ p.at + 8 → p.body.at + p.body.len ≤ p.next → p.next ≤ to → IsPartial s to
first_partial r s z p to fresh count parts same sound bext a e f g = record {
  few = omega (arith, count);
  ascends = subst (λ (ps : List Part). Rattle.wave_file.specs.Map.Ascend 12 ps to) (sym (parts ∙ ap (λ (x : List Part). x ++ p ∷ []) fresh.parts)) (a, e, f, g);
  sound = subst (λ (o : Option Span). Rattle.wave_file.specs.Reads.Ends to o) (sym (sound ∙ fresh.sound)) tt;
  ranges = subst (λ (t : Bool). HasRanges t s.fields) (sym bext) (subst (λ (es : List Entry). HasRanges r.has_bext es) (sym same) (fresh_ranges r z fresh));
  keys = subst HasNoKeys (sym same) (fresh_keys r z fresh);
}
