-- What is left of the chunks.
use Rattle.std.proofs.Common.{◌≡◌, ◌∙◌, ℕ, ◌+◌, Bool, true, false, List, [], ◌∷◌, ◌++◌, length, map, refl, sym, ap, append_assoc, inl, inr, subst}
use Rattle.std.specs.Prelude.{Option, Some, None}
use Rattle.std.specs.List.{AllByRecursion}
use Rattle.std.specs.declared.result.Result.TheVariants.{Err}
use Rattle.std.proofs.lemmas.List.{append-nil, map-append}
use Rattle.part_tree.specs.declared.part.Part.{Part}
use Rattle.part_tree.specs.declared.names.Span.{Span}
use Rattle.part_tree.specs.declared.field.FieldName.{FieldName}
use Rattle.part_tree.specs.declared.field.FieldName.TheVariants.{Bext, Info, Whole}
use Rattle.part_tree.specs.declared.field.Value.{Value}
use Rattle.part_tree.specs.declared.fields.Entry.{Entry}
use Rattle.part_tree.specs.declared.why.Why.{Why}
use Rattle.part_tree.specs.declared.why.Why.TheVariants.{NoFmt, NoData}
use Rattle.part_tree.specs.declared.why.ReadFault.{ReadFault}
use Rattle.part_tree.specs.declared.why.ReadFault.TheVariants as Fault
use Rattle.part_tree.specs.Fields.{values}
use Rattle.part_tree.specs.Names.{bext_row}
use Rattle.container_model.specs.Chunk.{Chunk, Run, and_then, stopped, ends, spell}
use Rattle.container_model.specs.Items.{listed}
use Rattle.container_model.specs.Walk.{along}
use Rattle.carrier_model.specs.Info.{info, info_items}
use Rattle.carrier_model.specs.Lists.{list_values, values_held}
use Rattle.field_model.specs.Bext.{range_of}
use Rattle.field_model.specs.Fields.{plain}
use Rattle.wave_model.specs.Fields.{is_bext, is_whole, body_in, bodies, fields_of}
use Rattle.wave_model.specs.Edited.{block_size, formats}
use Rattle.wave_model.specs.Why.{Seen, is_fmt, see, children_why, last_why, chunks_why}
use Rattle.container_model.specs.Tests.{or_else}
use Rattle.wave_file.specs.declared.chunk.Reading.{Reading}
use Rattle.wave_file.specs.declared.form.AllRead.{AllRead}
use Rattle.wave_file.specs.Map.{part_at, sound_at}
use Rattle.wave_file.specs.Reads.{IsLeft, Took, Takes, seen_of}
use Rattle.wave_file.specs.declared.sizing.Sizing.{Sizing}
use Rattle.field_model.specs.Lawful.{BextIsWhole, HasKeyHead, IsLawful}
use Rattle.wave_file.specs.Lawful.{HasNoKeys, HasRanges}
use Rattle.wave_file.specs.Sized.{IsStuck, StuckAt, run_at, state_of}
use Rattle.wave_file.specs.Form.{IsRead, ReadsChunks}

-- ---- the fields of one chunk more

fields_more : (c : Chunk) (cs : List Chunk) (n : FieldName) → fields_of (c ∷ cs) n ≡ fields_of (c ∷ []) n ++ fields_of cs n
fields_more c cs (Bext f) =
    ap (λ (x : List (List ℕ)). map plain (map (range_of (bext_row f)) (x ++ bodies is_bext cs))) (sym (append-nil (body_in is_bext c)))
    ∙ ap (map plain) (map-append (range_of (bext_row f)) (body_in is_bext c ++ []) (bodies is_bext cs))
    ∙ map-append plain (map (range_of (bext_row f)) (body_in is_bext c ++ [])) (map (range_of (bext_row f)) (bodies is_bext cs))
fields_more c cs (Info id) =
    ap (λ (x : List (List ℕ)). map plain (x ++ list_values info info_items id.0 cs)) (sym (append-nil (values_held info info_items id.0 c)))
    ∙ map-append plain (values_held info info_items id.0 c ++ []) (list_values info info_items id.0 cs)
fields_more c cs (Whole id) =
    ap (λ (x : List (List ℕ)). map plain (x ++ bodies (is_whole id.0) cs)) (sym (append-nil (body_in (is_whole id.0) c)))
    ∙ map-append plain (body_in (is_whole id.0) c ++ []) (bodies (is_whole id.0) cs)
fields_more c cs other = refl

no_fields : (n : FieldName) → fields_of [] n ≡ []
no_fields (Bext f) = refl
no_fields (Info id) = refl
no_fields (Whole id) = refl
no_fields other = refl

-- ---- one step

pub left_more : (b : List ℕ) (rest next : Run) (at to : ℕ) (c : Chunk) (r s : Reading) → IsLeft b rest at r → rest ≡ and_then c next → at + length (spell c) ≡ to → Took c at r s → IsLeft b next to s
left_more b rest next at to c r s left step place took = record {
  tests = left.tests
      ∙ ap (λ (x : Run). children_why at (seen_of r) x.chunks (last_why x.stop x.left)) step
      ∙ ap (λ (x : Option Why). or_else x (children_why (at + length (spell c)) (see (seen_of r) c) next.chunks (last_why next.stop next.left))) took.tests
      ∙ ap (λ (x : ℕ). children_why x (see (seen_of r) c) next.chunks (last_why next.stop next.left)) place
      ∙ ap (λ (x : Seen). children_why to x next.chunks (last_why next.stop next.left)) (sym took.seen);
  parts = ap (λ (x : List Part). x ++ along part_at to next.chunks) took.parts
      ∙ append_assoc r.parts.items (part_at at c) (along part_at to next.chunks)
      ∙ ap (λ (x : ℕ). r.parts.items ++ (part_at at c ++ along part_at x next.chunks)) (sym place)
      ∙ ap (λ (x : Run). r.parts.items ++ along part_at at x.chunks) (sym step)
      ∙ left.parts;
  grown = λ n.
      ap (λ (x : List Value). x ++ fields_of next.chunks n) (took.grown n)
      ∙ append_assoc (values r.fields n) (fields_of (c ∷ []) n) (fields_of next.chunks n)
      ∙ ap (λ (x : List Value). values r.fields n ++ x) (sym (fields_more c next.chunks n))
      ∙ ap (λ (x : Run). values r.fields n ++ fields_of x.chunks n) (sym step)
      ∙ left.grown n;
  formats = ap (λ (x : List ℕ). x ++ map block_size (formats next.chunks)) took.formats
      ∙ append_assoc (listed r.align) (map block_size (body_in is_fmt c)) (map block_size (formats next.chunks))
      ∙ ap (λ (x : List ℕ). listed r.align ++ x) (sym (map-append block_size (body_in is_fmt c) (formats next.chunks)))
      ∙ ap (λ (x : Run). listed r.align ++ map block_size (formats x.chunks)) (sym step)
      ∙ left.formats;
  sounds = ap (λ (x : List Span). x ++ along sound_at to next.chunks) took.sounds
      ∙ append_assoc (listed r.sound) (sound_at at c) (along sound_at to next.chunks)
      ∙ ap (λ (x : ℕ). listed r.sound ++ (sound_at at c ++ along sound_at x next.chunks)) (sym place)
      ∙ ap (λ (x : Run). listed r.sound ++ along sound_at at x.chunks) (sym step)
      ∙ left.sounds;
}

-- ---- the ends

pub left_stuck : (b : List ℕ) (rest : Run) (at : ℕ) (r : Reading) (w : Why) → IsLeft b rest at r → IsStuck rest at w → chunks_why b ≡ Some w
left_stuck b rest at r w left stuck =
    left.tests ∙ ap (λ (cs : List Chunk). children_why at (seen_of r) cs (last_why rest.stop rest.left)) stuck.none ∙ stuck.told (seen_of r)

pub take_fails : (b : List ℕ) (rest next : Run) (at : ℕ) (c : Chunk) (r s : Reading) (fault : ReadFault) → IsLeft b rest at r → rest ≡ and_then c next → Takes c at r s (Err fault) → ReadsChunks b (Err fault)
take_fails b rest next at c r s (Fault.Why w) left step h =
    left.tests ∙ ap (λ (x : Run). children_why at (seen_of r) x.chunks (last_why x.stop x.left)) step
    ∙ ap (λ (x : Option Why). or_else x (children_why (at + length (spell c)) (see (seen_of r) c) next.chunks (last_why next.stop next.left))) h
take_fails b rest next at c r s Fault.Depot left step h = tt
take_fails b rest next at c r s Fault.Memory left step h = tt

end_tests : (b : List ℕ) (rest : Run) (at : ℕ) (bytes : List ℕ) (r : Reading) → IsLeft b rest at r → rest ≡ stopped ends bytes → chunks_why b ≡ last_why ends bytes at (seen_of r)
end_tests b rest at bytes r left step = left.tests ∙ ap (λ (x : Run). children_why at (seen_of r) x.chunks (last_why x.stop x.left)) step

pub no_format : (b : List ℕ) (rest : Run) (at : ℕ) (bytes : List ℕ) (r : Reading) → IsLeft b rest at r → rest ≡ stopped ends bytes → r.align ≡ None → chunks_why b ≡ Some NoFmt
no_format b rest at bytes r left step none =
    end_tests b rest at bytes r left step
    ∙ ap (λ (o : Option ℕ). last_why ends bytes at (record { parts = r.count; formats = length (listed o); sounds = length (listed r.sound); bexts = (seen_of r).bexts })) none

pub no_sound : (b : List ℕ) (rest : Run) (at : ℕ) (bytes : List ℕ) (r : Reading) (n : ℕ) → IsLeft b rest at r → rest ≡ stopped ends bytes → r.align ≡ Some n → r.sound ≡ None → chunks_why b ≡ Some NoData
no_sound b rest at bytes r n left step some none =
    end_tests b rest at bytes r left step
    ∙ ap (λ (o : Option ℕ). last_why ends bytes at (record { parts = r.count; formats = length (listed o); sounds = length (listed r.sound); bexts = (seen_of r).bexts })) some
    ∙ ap (λ (o : Option Span). last_why ends bytes at (record { parts = r.count; formats = 1; sounds = length (listed o); bexts = (seen_of r).bexts })) none

pub left_all : (b : List ℕ) (rest : Run) (at : ℕ) (bytes : List ℕ) (r : Reading) (n : ℕ) (s : Span) (all : AllRead) → IsLeft b rest at r → rest ≡ stopped ends bytes → r.align ≡ Some n → r.sound ≡ Some s
    → all.parts.items ≡ r.parts.items → all.fields ≡ r.fields → all.align ≡ n → all.sound ≡ s → IsRead b all
left_all b rest at bytes r n s all left step some sound p f a d = record {
  tests = end_tests b rest at bytes r left step
      ∙ ap (λ (o : Option ℕ). last_why ends bytes at (record { parts = r.count; formats = length (listed o); sounds = length (listed r.sound); bexts = (seen_of r).bexts })) some
      ∙ ap (λ (o : Option Span). last_why ends bytes at (record { parts = r.count; formats = 1; sounds = length (listed o); bexts = (seen_of r).bexts })) sound;
  parts = p ∙ sym (append-nil r.parts.items) ∙ ap (λ (x : Run). r.parts.items ++ along part_at at x.chunks) (sym step) ∙ left.parts;
  grown = λ m. ap (λ (es : List Entry). values es m) f ∙ sym (append-nil (values r.fields m)) ∙ ap (λ (vs : List Value). values r.fields m ++ vs) (sym (no_fields m)) ∙ ap (λ (x : Run). values r.fields m ++ fields_of x.chunks m) (sym step) ∙ left.grown m;
  formats = ap (λ (x : ℕ). x ∷ []) a ∙ ap listed (sym some) ∙ sym (append-nil (listed r.align)) ∙ ap (λ (x : Run). listed r.align ++ map block_size (formats x.chunks)) (sym step) ∙ left.formats;
  sounds = ap (λ (x : Span). x ∷ []) d ∙ ap listed (sym sound) ∙ sym (append-nil (listed r.sound)) ∙ ap (λ (x : Run). listed r.sound ++ along sound_at at x.chunks) (sym step) ∙ left.sounds;
}

pub chunks_stuck : (b : List ℕ) (at end : ℕ) (z : Sizing) (r : Reading) (fault : ReadFault) → IsLeft b (run_at (state_of z) b at end) at r → StuckAt b at end z fault → ReadsChunks b (Err fault)
chunks_stuck b at end z r (Fault.Why w) left stuck = left_stuck b (run_at (state_of z) b at end) at r w left stuck
chunks_stuck b at end z r Fault.Depot left stuck = tt
chunks_stuck b at end z r Fault.Memory left stuck = tt

whole : (has : Bool) (es : List Entry) → HasRanges has es → BextIsWhole (values es)
whole true es h = inl h
whole false es h = inr h

pub lawful : (has : Bool) (es : List Entry) → HasRanges has es → HasNoKeys es → IsLawful (values es)
lawful has es h none = record { bext = whole has es h; keys = λ name. subst (AllByRecursion HasKeyHead) (sym (none name)) tt }
