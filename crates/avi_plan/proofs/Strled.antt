-- The list of a stream with another name, as a planner and as the model has it.
use Rattle.std.proofs.Common.{◌≡◌, ◌∙◌, ℕ, ◌+◌, ◌%◌, ◌≤◌, Bool, true, false, cond, eqb, List, [], ◌∷◌, ◌++◌, length, map, take, refl, sym, ap, subst, arith, inl, inr, length-append}
use Rattle.std.specs.Prelude.{◌&&◌, Option, codes}
use Rattle.std.specs.Int.{w32, to_le_bytes}
use Rattle.std.specs.List.{flat_map}
use Rattle.std.proofs.lemmas.Bool.{and_parts, eq-eqb}
use Rattle.std.proofs.lemmas.List.{length-drop, length-replicate}
use Rattle.part_tree.specs.declared.names.Span.{Span}
use Rattle.part_tree.specs.declared.plan.Patch.{Patch}
use Rattle.container_model.specs.Chunk.{Chunk, Form, PadStands, Pads, Run, pad_len, spell, spell_all}
use Rattle.container_model.specs.Items.{is_nil, listed}
use Rattle.container_model.specs.Splice.{Cut}
use Rattle.container_model.specs.Units.{cuts, lay, old_bytes, padded, shut}
use Rattle.container_model.proofs.Plain.{ArePlain, IsPlain}
use Rattle.container_model.proofs.Reread.{ArePadded, IsPadded}
use Rattle.container_model.proofs.Units.{lay_all, units_bring, units_old}
use Rattle.carrier_model.specs.Info.{list_run, made}
use Rattle.carrier_model.specs.Names.{name_cells}
use Rattle.carrier_model.specs.Room.{unit_patches, units_fit}
use Rattle.carrier_model.proofs.Info.{fill_all, made_padded}
use Rattle.carrier_model.proofs.Names.{cells_names}
use Rattle.carrier_model.proofs.RiffForm.{none_is}
use Rattle.carrier_model.proofs.Room.{riff_fits}
use Rattle.unit_plan.specs.Cuts.{SpansAscend, cut_in, outcome_in, patch_of}
use Rattle.unit_plan.specs.Rows.{Outcome, cells_outcome}
use Rattle.unit_plan.specs.Shapes.{parts_in}
use Rattle.unit_plan.specs.declared.cut.CutAt.{CutAt}
use Rattle.unit_plan.specs.declared.row.UnitCuts.{UnitCuts}
use Rattle.unit_plan.proofs.Spans.{lost_low}
use Rattle.avi_names.specs.Names.{chunks_of}
use Rattle.avi_model.specs.Named.{Names, Site, cell_of, ends_list, list_with, names_after, new_names, respelled, strl_fill, strl_named, strl_pieces}
use Rattle.avi_model.proofs.Edit.{cells_all}
use Rattle.avi_model.proofs.Lays.{units_exactly}
use Rattle.avi_model.proofs.NamesLay.{strl_pad}
use Rattle.avi_model.proofs.Respelled.{IsList, all_names, laid_chunks, list_length, list_plain, made_names, respelled_body, strl_plain}
use Rattle.avi_model.proofs.Streams.{none_after}
use Rattle.avi_model.proofs.StreamsGo.{was_is}
use Rattle.avi_plan.specs.Lists.{IsSoundList, behind, keeps_pad, list_cuts, size_then}
use Rattle.avi_plan.specs.Streams.{IsSite}
use Rattle.avi_plan.specs.Strls.{name_chunks, one}
use Rattle.avi_plan.specs.declared.list.ListAt.{ListAt}
use Rattle.avi_plan.proofs.Around.{IsListOf, around_is, around_patches, keeps_where, spelled_long}
use Rattle.avi_plan.proofs.Grown.{grow, lose, slots_grow, told_grow, told_lose}
use Rattle.avi_plan.proofs.Streamed.{OneTold}

parts_one : (cs : List Chunk) → parts_in one cs ≡ length cs
parts_one [] = refl
parts_one (c ∷ cs) = omega (arith, parts_one cs)

-- ---- where the list stands, and how its numbers are told

module _ (b : List ℕ) (e : Names) (end len : ℕ) (s : Site) (l : ListAt) (sound : IsSoundList l) (site : IsSite b end len (behind l) s) (next : l.next ≡ s.at + length (spell s.chunk)) where
  plain : IsPlain s.chunk
  plain = record { form_is = site.form_is; id_len = site.id_len }

  is : IsList s.chunk
  is = record { form_is = site.form_is; long = site.long; all_read = site.whole; pads = site.pads; spelled = site.spelled }

  at_is : l.at ≡ s.at
  at_is = omega (arith, ap (λ (x : Span). x.at) site.told)

  size_is : l.size ≡ length s.chunk.body
  size_is = omega (arith, ap (λ (x : Span). x.len) site.told, sound.typed, site.long)

  of : IsListOf l s.at s.chunk
  of = record {
    form_is = site.form_is;
    id_len = site.id_len;
    at_is = at_is;
    size_is = size_is;
    next_is = next;
    padded = omega (arith, next, at_is, size_is, spelled_long s.chunk site.form_is site.id_len, sound.padded);
  }

  abbrev vs : List (List ℕ)
  vs = names_after e s.stream []

  abbrev kids : List Chunk
  kids = (list_run s.chunk).chunks

  abbrev left : List ℕ
  left = (list_run s.chunk).left

  abbrev last_slot : Bool
  last_slot = s.ends && ends_list s.chunk

  abbrev laid : List Chunk
  laid = lay (strl_fill s.ends s.chunk) (strl_pieces (new_names e s.stream) s.chunk)

  abbrev new : Chunk
  new = strl_named s.ends (new_names e s.stream) s.chunk

  abbrev body : List ℕ
  body = take 4 s.chunk.body ++ (spell_all (lay (strl_fill s.ends s.chunk) (strl_pieces (new_names e s.stream) s.chunk)) ++ (list_run s.chunk).left)

  body_long : length s.chunk.body ≡ 4 + (length (spell_all (list_run s.chunk).chunks) + length (list_run s.chunk).left)
  body_long = omega (arith, is.long, ap length is.spelled, length-append (spell_all kids) left, length-drop 4 s.chunk.body)

  module _ (u : UnitCuts) (inside : len ≤ length b) (within : l.next ≤ len) (ascend : SpansAscend (l.at + 12) u.cuts.items (l.at + 8 + l.size))
      (comes : outcome_in b u ≡ cells_outcome one (s.ends && ends_list s.chunk) (s.at + 12) (name_cells (new_names e s.stream) (map cell_of (list_run s.chunk).chunks))) where
    abbrev ks : List CutAt
    ks = u.cuts.items

    abbrev n : ℕ
    n = size_then l u.cuts.items

    cuts_are : map (cut_in b) u.cuts.items ≡ cuts (strl_fill s.ends s.chunk) (s.at + 12) (strl_pieces (new_names e s.stream) s.chunk)
    cuts_are = ap (λ (o : Outcome). o.cuts) comes

    patches_are : flat_map patch_of u.cuts.items ≡ unit_patches (strl_fill s.ends s.chunk) (s.at + 12) (strl_pieces (new_names e s.stream) s.chunk)
    patches_are = ap (λ (o : Outcome). o.patches) comes

    fits_are : u.fits ≡ units_fit (s.ends && ends_list s.chunk) (strl_pieces (new_names e s.stream) s.chunk)
    fits_are = ap (λ (o : Outcome). o.fits) comes

    long : size_then l u.cuts.items ≡ length (strl_named s.ends (new_names e s.stream) s.chunk).body
    long =
        let fill = strl_fill s.ends s.chunk in
        omega (
          arith,
          size_is,
          body_long,
          list_length s.chunk laid is,
          lost_low (l.at + 12) (l.at + 8 + l.size) ks ascend,
          slots_grow e s plain is fill (s.at + 12),
          told_grow b (l.at + 12) (l.at + 8 + l.size) ks (omega (arith, sound.whole, within, inside)) ascend,
          told_lose b ks,
          ap grow cuts_are,
          ap lose cuts_are,
        )

    body_same : size_then l u.cuts.items ≡ length body
    body_same = long ∙ ap length (respelled_body s.chunk body)

    keeps : u.fits ≡ true → keeps_pad l (size_then l u.cuts.items) ≡ true
    keeps f = keeps_where b l s.at s.chunk of body n body_same (strl_pad e s plain is (sym fits_are ∙ f))

    fit_is : (u.fits && keeps_pad l (size_then l u.cuts.items)) ≡ u.fits
    fit_is = go u.fits refl
      where
        go : (t : Bool) → u.fits ≡ t → (t && keeps_pad l (size_then l u.cuts.items)) ≡ t
        go true f = keeps f
        go false f = refl

    pub one_told : (was : ℕ) → was ≡ length (list_run s.chunk).chunks → OneTold b e s (list_cuts l u.cuts.items) (u.fits && keeps_pad l (size_then l u.cuts.items)) was u.parts
    one_told was w =
        let slots = cuts (strl_fill s.ends s.chunk) (s.at + 12) (strl_pieces (new_names e s.stream) s.chunk) in
        let size : List Cut = cond (eqb (length s.chunk.body) (length new.body)) [] (record { at = s.at + 4; len = 4; bytes = to_le_bytes w32 (length new.body) } ∷ []) in
        let pad = Rattle.avi_model.specs.Named.list_pad s new in
        let patch : List Patch = cond (eqb (length s.chunk.body) (length new.body)) [] (Rattle.carrier_model.specs.Room.patch (s.at + 4) (to_le_bytes w32 (length new.body))) in
        record {
          cuts_are = around_is b l s.at s.chunk of body n body_same long ks ∙ ap (λ (x : List Cut). size ++ (x ++ pad)) cuts_are;
          fits_are = fit_is ∙ fits_are;
          patches = λ f. around_patches b l s.at s.chunk of body n body_same long (keeps (sym fit_is ∙ f)) ks ∙ ap (λ (x : List Patch). patch ++ x) patches_are;
          was_is = w;
          now_is = ap (λ (o : Outcome). o.parts) comes ∙ parts_one laid;
        }

-- ---- as the units are told

pub comes_told : (b : List ℕ) (e : Names) (end len : ℕ) (s : Site) (l : ListAt) (body : Option (List ℕ)) (u : UnitCuts) → IsSite b end len (behind l) s → names_after e s.stream [] ≡ listed body
    → outcome_in b u ≡ cells_outcome one (eqb ((behind l).at + length (spell_all (chunks_of b (behind l)).chunks)) len) (behind l).at (name_cells (name_chunks body) (map cell_of (chunks_of b (behind l)).chunks))
    → outcome_in b u ≡ cells_outcome one (s.ends && ends_list s.chunk) (s.at + 12) (name_cells (new_names e s.stream) (map cell_of (list_run s.chunk).chunks))
comes_told b e end len s l body u site names comes =
    let place : (behind l).at ≡ s.at + 12 = ap (λ (x : Span). x.at) site.told in
    comes
    ∙ ap (λ (r : Run). cells_outcome one (eqb ((behind l).at + length (spell_all r.chunks)) len) (behind l).at (name_cells (name_chunks body) (map cell_of r.chunks))) site.reads
    ∙ ap (λ (p : ℕ). cells_outcome one (eqb (p + length (spell_all (list_run s.chunk).chunks)) len) p (name_cells (name_chunks body) (map cell_of (list_run s.chunk).chunks))) place
    ∙ ap (λ (t : Bool). cells_outcome one t (s.at + 12) (name_cells (name_chunks body) (map cell_of (list_run s.chunk).chunks))) (sym site.last)
    ∙ ap (λ (xs : List (List ℕ)). cells_outcome one (s.ends && ends_list s.chunk) (s.at + 12) (name_cells (map (made (codes "strn")) xs) (map cell_of (list_run s.chunk).chunks))) (sym names)
