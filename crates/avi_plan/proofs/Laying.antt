-- The patches of an edit in place, and how long the new file is.
use Rattle.std.proofs.Common.{◌≡◌, ◌∙◌, ◌⊎◌, ℕ, ◌+◌, ◌≤◌, ◌<◌, Bool, true, false, cond, eqb, List, [], ◌∷◌, ◌++◌, length, map, refl, sym, ap, subst, arith, inl, inr}
use Rattle.std.specs.List.{AllByRecursion, flat_map}
use Rattle.std.proofs.lemmas.Bool.{and_parts}
use Rattle.std.proofs.lemmas.List.{append-nil, length-append, map-append}
use Rattle.std.proofs.lemmas.List.Concat.{flat_map-append}
use Rattle.me_bytes.specs.Bytes.{IsBytes}
use Rattle.part_tree.specs.declared.plan.Patch.{Patch}
use Rattle.container_model.specs.Chunk.{riff, spell}
use Rattle.container_model.specs.Units.{shut, units as pieces}
use Rattle.carrier_model.specs.Info.{riff_fill}
use Rattle.carrier_model.specs.Room.{patch, unit_patches}
use Rattle.carrier_model.specs.RiffForm.{pad_cut, size_patch}
use Rattle.opendml_index.specs.Index.{move}
use Rattle.avi_model.specs.After.{Changes, children_after, goes, joined, joined_file, pad_after}
use Rattle.avi_model.specs.Avi.{Avi, avi_of, behind, form_of, inner, spell_avi}
use Rattle.avi_model.specs.Index.{writes}
use Rattle.avi_model.specs.Named.{ends_file, hdrl_site, named}
use Rattle.avi_model.specs.NewFile.{new_cells}
use Rattle.avi_model.specs.RoomAfter.{hdrl_patches, patches_of, put_patches}
use Rattle.avi_model.specs.Support.{Supported}
use Rattle.avi_model.proofs.Cuts.{behind_length}
use Rattle.avi_model.proofs.Frames.{again as read_again}
use Rattle.avi_model.proofs.JoinedCuts.{pad_stays, size_stays}
use Rattle.avi_model.proofs.Read.{renewed_avi}
use Rattle.unit_plan.specs.Cuts.{EndsFile, FitsIn, IsExact, SpansAscend, cut_in, outcome_in, patch_of}
use Rattle.unit_plan.specs.Places.{Follow, shape_in}
use Rattle.unit_plan.specs.Rows.{Outcome, none, row}
use Rattle.unit_plan.specs.Sized.{gained, lost, size_at, spliced_len}
use Rattle.unit_plan.specs.declared.cut.CutAt.{CutAt}
use Rattle.unit_plan.specs.declared.place.Place.{Place}
use Rattle.unit_plan.specs.declared.row.UnitCuts.{UnitCuts}
use Rattle.unit_plan.proofs.Spans.{ascend_high, exact_fit, lost_low}
use Rattle.avi_plan.specs.declared.form.FormAt.{FormAt}
use Rattle.avi_plan.specs.declared.names.NamesAt.{NamesAt}
use Rattle.avi_plan.specs.Form.{IsFormOf, IsSoundForm, keeps_pad, pads, sizes}
use Rattle.avi_plan.specs.NamesAt.{AreNames, StandNames}
use Rattle.avi_plan.specs.Patched.{patches_from, placed_patches}
use Rattle.avi_plan.specs.Row.{IsBeside, IsJoined, told_row}
use Rattle.avi_plan.proofs.Coming.{at_is, fs, halves, len_is, model_is, next_is, pads_are, sides, size_told, units_are}
use Rattle.avi_plan.proofs.Coming as coming
use Rattle.avi_plan.proofs.InPlace.{Rises, end_patches, exact_front, fit_patches, last_front, puts_between, size_front}
use Rattle.avi_plan.proofs.Numbers.{all_split, ascend_join, exact_same, file_asc, fits_front, fits_split, high_asc, low_asc, names_asc, padded_asc}
use Rattle.avi_plan.proofs.Pads.{file_long}
use Rattle.avi_plan.proofs.Slid.{Halves, SlidPatches}
use Rattle.avi_plan.proofs.Spans.{sizes_ascend, spans_low}
use Rattle.avi_plan.proofs.Sums.{brings, brings_both, held, pad_sums, sized_both, split_patches, takes}

-- ---- patches that rise

rises_low : (p q t : ℕ) (ps : List Patch) → p ≤ q → Rises q ps t → Rises p ps t
rises_low p q t [] le h = tt
rises_low p q t (r ∷ ps) le h = (omega (arith, le, h.0), h.1, h.2)

rises : (q next t len : ℕ) (ks : List CutAt) → SpansAscend q ks next → FitsIn len ks → t + lost ks ≡ next + gained ks → Rises q (flat_map patch_of ks) t
rises q next t len [] h f e = tt
rises q next t len (k ∷ ks) h f e = go k.bytes (behind f.0 (λ exact. rises (k.span.at + k.span.len) next t len ks h.2 f.1 (omega (arith, e, exact))))
  where
    low : lost ks + (k.span.at + k.span.len) ≤ next
    low = lost_low (k.span.at + k.span.len) next ks h.2

    behind : IsExact k ⊎ (EndsFile len k × (ks ≡ [])) → (IsExact k → Rises (k.span.at + k.span.len) (flat_map patch_of ks) t) → Rises (k.span.at + k.span.len) (flat_map patch_of ks) t
    behind (inl exact) again = again exact
    behind (inr last) again = subst (λ (js : List CutAt). Rises (k.span.at + k.span.len) (flat_map patch_of js) t) (sym last.1) tt

    go : (w : List ℕ) → Rises (k.span.at + k.span.len) (flat_map patch_of ks) t → Rises q (patch k.span.at w ++ flat_map patch_of ks) t
    go [] r = rises_low q (k.span.at + k.span.len) t (flat_map patch_of ks) (omega (arith, h.0)) r
    go (v ∷ w) r = (h.0, omega (arith, e, low), rises_low k.span.at (k.span.at + k.span.len) t (flat_map patch_of ks) (omega arith) r)

slid_same : (p q : ℕ) (a b : List Patch) → p ≡ q → SlidPatches p q a b → a ≡ b
slid_same p q [] [] e h = refl
slid_same p q [] (y ∷ b) e h = absurd h
slid_same p q (x ∷ a) [] e h = absurd h
slid_same p q (x ∷ a) (y ∷ b) e h =
    let at : x.at ≡ y.at = omega (arith, h.1, e) in
    ap (λ (n : ℕ). record x { at = n } ∷ a) at ∙ ap (λ (w : List ℕ). record { at = y.at; bytes = w } ∷ a) h.2 ∙ ap (λ (ps : List Patch). y ∷ ps) (slid_same p q a b e h.3)

-- patches of spans before a place, and behind it
low_patches : (from q : ℕ) (ks : List CutAt) → q ≡ from → AllByRecursion (λ (k : CutAt). k.span.at + k.span.len ≤ q) ks → AllByRecursion (λ (p : Patch). p.at ≤ from) (flat_map patch_of ks)
low_patches from q [] e h = tt
low_patches from q (k ∷ ks) e h = go k.bytes (low_patches from q ks e h.1)
  where
    go : (w : List ℕ) → AllByRecursion (λ (p : Patch). p.at ≤ from) (flat_map patch_of ks) → AllByRecursion (λ (p : Patch). p.at ≤ from) (patch k.span.at w ++ flat_map patch_of ks)
    go [] r = r
    go (v ∷ w) r = (omega (arith, e, h.0), r)

high_patches : (from q : ℕ) (ks : List CutAt) → from < q → AllByRecursion (λ (k : CutAt). q ≤ k.span.at) ks → AllByRecursion (λ (p : Patch). from < p.at) (flat_map patch_of ks)
high_patches from q [] e h = tt
high_patches from q (k ∷ ks) e h = go k.bytes (high_patches from q ks e h.1)
  where
    go : (w : List ℕ) → AllByRecursion (λ (p : Patch). from < p.at) (flat_map patch_of ks) → AllByRecursion (λ (p : Patch). from < p.at) (patch k.span.at w ++ flat_map patch_of ks)
    go [] r = r
    go (v ∷ w) r = (omega (arith, e, h.0), r)

slid_over : (from p q : ℕ) (a b : List Patch) → from < p → SlidPatches p q a b → AllByRecursion (λ (c : Patch). from < c.at) a
slid_over from p q [] b lt h = tt
slid_over from p q (x ∷ a) [] lt h = absurd h
slid_over from p q (x ∷ a) (y ∷ b) lt h = (omega (arith, lt, h.0), slid_over from p q a b lt h.3)

slid_new : (p q : ℕ) (a b : List Patch) → SlidPatches p q a b → AllByRecursion (λ (c : Patch). q ≤ c.at) b
slid_new p q [] [] h = tt
slid_new p q [] (y ∷ b) h = absurd h
slid_new p q (x ∷ a) [] h = absurd h
slid_new p q (x ∷ a) (y ∷ b) h = (omega (arith, h.0, h.1), slid_new p q a b h.3)

module _ (b : List ℕ) (bytes : IsBytes b) (s : Supported b) (c : Changes) (f : FormAt) (known : IsFormOf b f) (sound : IsSoundForm f) (names : NamesAt) (are : AreNames b c.names names) (stand : StandNames f.len names)
    (end : ℕ) (high : end ≤ 8 + f.size) (ps : List Place) (follow : Follow 12 ps end) (units u : UnitCuts) (asc : SpansAscend 12 units.cuts.items end) (ends : Bool) (ends_is : ends ≡ eqb end f.len)
    (out : outcome_in b units ≡ row ends 12 none (map (shape_in b) ps)) (shapes : map (shape_in b) ps ≡ told_row names.lacks_pad (new_cells (avi_of b) c.infos)) (j : IsJoined f.others end names units u)
    (n : ℕ) (sum : n + f.len ≡ spliced_len f.len u.cuts.items + f.size) (stays : Bool) (stays_is : stays ≡ keeps_pad b f n) where
  abbrev a : Avi
  a = avi_of b

  abbrev na : Avi
  na = named (avi_of b) c.names

  abbrev H : Halves (coming.from b bytes s c f known sound names are stand end high ps follow units u asc ends ends_is out shapes j) (coming.x b bytes s c f known sound names are stand end high ps follow units u asc ends ends_is out shapes j) (coming.y b bytes s c f known sound names are stand end high ps follow units u asc ends ends_is out shapes j)
      (row ends 12 none (told_row (Rattle.container_model.specs.Units.lacks_pad (coming.k b bytes s c f known sound names are stand end high ps follow units u asc ends ends_is out shapes j)) (new_cells (avi_of b) c.infos)))
      (row ends 12 none (map (Rattle.unit_plan.specs.Shapes.shape_of Rattle.avi_plan.specs.Row.part_count) (new_cells (named (avi_of b) c.names) c.infos)))
  H = halves b bytes s c f known sound names are stand end high ps follow units u asc ends ends_is out shapes j

  abbrev from : ℕ
  from = coming.from b bytes s c f known sound names are stand end high ps follow units u asc ends ends_is out shapes j

  abbrev x : ℕ
  x = coming.x b bytes s c f known sound names are stand end high ps follow units u asc ends ends_is out shapes j

  abbrev y : ℕ
  y = coming.y b bytes s c f known sound names are stand end high ps follow units u asc ends ends_is out shapes j

  n_is : n ≡ length (inner (children_after (avi_of b) c) (avi_of b).left)
  n_is = size_told b bytes s c f known sound names are stand end high ps follow units u asc ends ends_is out shapes j n sum

  at : names.at ≡ from
  at = at_is b bytes s c f known sound names are stand end high ps follow units u asc ends ends_is out shapes j

  next : names.next ≡ from + x
  next = next_is b bytes s c f known sound names are stand end high ps follow units u asc ends ends_is out shapes j

  len : names.len ≡ y
  len = len_is b bytes s c f known sound names are stand end high ps follow units u asc ends ends_is out shapes j

  inside : end ≤ f.len
  inside = omega (arith, high, sound.inside)

  -- ---- the patches

  some : from < from + x
  some = omega (arith, at, next, stand.order)

  patch_sides : (flat_map patch_of j.low ≡ H.low_patches) × (flat_map patch_of j.high ≡ H.high_patches)
  patch_sides =
      split_patches from (flat_map patch_of j.low) (flat_map patch_of j.high) H.low_patches H.high_patches
      (sym (flat_map-append patch_of j.low j.high) ∙ ap (flat_map patch_of) (sym j.split) ∙ ap (λ (o : Outcome). o.patches) (units_are b bytes s c f known sound names are stand end high ps follow units u asc ends ends_is out shapes j) ∙ H.old_patches)
      (low_patches from names.at j.low at j.beside.low_ends) (high_patches from names.next j.high (omega (arith, next, some)) j.beside.high_begins) H.patches_before
      (slid_over from (from + x) (from + y) H.high_patches H.high_patches_new some H.slid_patches)

  model_patches : unit_patches (riff_fill (ends_file (avi_of b))) 12 (pieces shut (new_cells (named (avi_of b) c.names) c.infos)) ≡ H.low_patches ++ H.high_patches_new
  model_patches = sym (ap (λ (o : Outcome). o.patches) (model_is b bytes s c f known sound names are stand end high ps follow units u asc ends ends_is out shapes j)) ∙ H.new_patches

  sum_names : (from + y) + lost names.cuts.items ≡ names.next + gained names.cuts.items
  sum_names = omega (arith, stand.sum, len, at)

  -- what stands behind the size
  laid : n ≡ f.size ⊎ (f.len ≡ 8 + f.size) → (n ≡ f.size → stays ≡ true) → (f.len ≡ 8 + f.size → stays ≡ true) → pads f n stays ≡ []
  laid (inl e) still last = ap (pads f n) (still e)
  laid (inr e) still last = ap (pads f n) (last e)

  module _ (still : n ≡ f.size → stays ≡ true) (last : f.len ≡ 8 + f.size → stays ≡ true)
      (how : units.fits ≡ true → AllByRecursion IsExact units.cuts.items ⊎ ((end ≡ f.len) × FitsIn f.len units.cuts.items)) (fit : u.fits ≡ true) where
    both : (names.fits ≡ true) × (units.fits ≡ true)
    both = and_parts names.fits units.fits (sym j.fits ∙ fit)

    low_span : SpansAscend 12 j.low names.at
    low_span = low_asc f sound names stand f.others end high units u asc j

    high_span : SpansAscend names.next j.high end
    high_span = high_asc f sound names stand f.others end high units u asc j

    names_span : SpansAscend names.at names.cuts.items names.next
    names_span = names_asc f sound names stand f.others end high units u asc j

    behind_span : SpansAscend names.at (names.cuts.items ++ j.high) end
    behind_span = ascend_join names.at names.next end names.cuts.items j.high names_span high_span

    before : names.at < f.len
    before = omega (arith, stand.order, j.beside.inside, inside)

    low_exact : AllByRecursion IsExact units.cuts.items ⊎ ((end ≡ f.len) × FitsIn f.len units.cuts.items) → AllByRecursion IsExact j.low
    low_exact (inl exact) = (all_split IsExact j.low j.high (subst (AllByRecursion IsExact) j.split exact)).0
    low_exact (inr ends) = fits_front 12 names.at f.len j.low j.high low_span before (subst (FitsIn f.len) j.split ends.1)

    high_fits : AllByRecursion IsExact units.cuts.items ⊎ ((end ≡ f.len) × FitsIn f.len units.cuts.items) → FitsIn f.len j.high
    high_fits (inl exact) = exact_fit f.len j.high (all_split IsExact j.low j.high (subst (AllByRecursion IsExact) j.split exact)).1
    high_fits (inr ends) = fits_split f.len j.low j.high (subst (FitsIn f.len) j.split ends.1)

    names_fits : AllByRecursion IsExact names.cuts.items ⊎ ((names.next ≡ f.len) × FitsIn f.len names.cuts.items) → FitsIn f.len names.cuts.items
    names_fits (inl exact) = exact_fit f.len names.cuts.items exact
    names_fits (inr ends) = ends.1

    -- the size stays, or the form ends the file
    kept : AllByRecursion IsExact names.cuts.items ⊎ ((names.next ≡ f.len) × FitsIn f.len names.cuts.items) → AllByRecursion IsExact units.cuts.items ⊎ ((end ≡ f.len) × FitsIn f.len units.cuts.items) → (n ≡ f.size) ⊎ (f.len ≡ 8 + f.size)
    kept (inl exact) (inl all) =
        let parts = all_split IsExact j.low j.high (subst (AllByRecursion IsExact) j.split all) in
        let z = sized_both j.low (names.cuts.items ++ j.high) in
        let w = sized_both names.cuts.items j.high in
        inl (omega (
          arith,
          sum,
          exact_same j.low parts.0,
          exact_same names.cuts.items exact,
          exact_same j.high parts.1,
          ap gained j.cuts_are,
          ap lost j.cuts_are,
          z.0,
          z.1,
          w.0,
          w.1,
          lost_low 0 f.len u.cuts.items (file_asc f sound names stand f.others end high units u asc j),
        ))
    kept (inl exact) (inr ends) = inr (omega (arith, ends.0, high, sound.inside))
    kept (inr ends) other = inr (omega (arith, ends.0, j.beside.inside, high, sound.inside))

    -- the names and what is behind them
    tail : AllByRecursion IsExact names.cuts.items ⊎ ((names.next ≡ f.len) × FitsIn f.len names.cuts.items)
        → patches_from names.at names.at (names.cuts.items ++ j.high) ≡ flat_map patch_of names.cuts.items ++ H.high_patches_new
    tail (inl exact) =
        let same : from + x ≡ from + y = omega (arith, stand.sum, exact_same names.cuts.items exact, at, next, len) in
        let far : SpansAscend names.next j.high f.len = ascend_high names.next end f.len j.high inside high_span in
        exact_front names.at names.next end names.cuts.items j.high names_span exact high_span
        ∙ ap (λ (qs : List Patch). flat_map patch_of names.cuts.items ++ qs) (fit_patches names.next f.len j.high far (high_fits (how both.1)) ∙ patch_sides.1 ∙ slid_same (from + x) (from + y) H.high_patches H.high_patches_new same H.slid_patches)
    tail (inr ends) =
        let there : end ≡ f.len = omega (arith, ends.0, j.beside.inside, inside) in
        let names_far : SpansAscend names.at names.cuts.items f.len = subst (λ (q : ℕ). SpansAscend names.at names.cuts.items q) ends.0 names_span in
        let high_far : SpansAscend f.len j.high f.len = subst (λ (q : ℕ). SpansAscend q j.high f.len) ends.0 (subst (λ (q : ℕ). SpansAscend names.next j.high q) there high_span) in
        let slid : SlidPatches f.len (from + y) (flat_map patch_of j.high) H.high_patches_new
        = subst (λ (q : ℕ). SlidPatches q (from + y) (flat_map patch_of j.high) H.high_patches_new) (omega (arith, next, ends.0)) (subst (λ (qs : List Patch). SlidPatches (from + x) (from + y) qs H.high_patches_new) (sym patch_sides.1) H.slid_patches) in
        last_front names.at f.len (from + y) names.cuts.items j.high names_far ends.1 (omega (arith, sum_names, ends.0)) high_far
        ∙ ap (λ (qs : List Patch). flat_map patch_of names.cuts.items ++ qs) (end_patches f.len (from + y) j.high H.high_patches_new high_far (high_fits (how both.1)) slid)

    pub patches_told : placed_patches (sizes f n ++ (u.cuts.items ++ pads f n stays)) ≡ patches_of (avi_of b) c
    patches_told =
        let hows = stand.fits both.0 in
        let NP = flat_map (hdrl_patches c.names) (hdrl_site a) in
        let N = flat_map patch_of names.cuts.items in
        let np : N ≡ NP = are.patches both.0 in
        let up : Rises (from + 1) NP (from + y)
        = subst (λ (qs : List Patch). Rises (from + 1) qs (from + y)) np (subst (λ (q : ℕ). Rises (q + 1) N (from + y)) at (rises (names.at + 1) names.next (from + y) f.len names.cuts.items stand.ascend (names_fits hows) sum_names)) in
        size_front f n f.len (u.cuts.items ++ pads f n stays) (padded_asc f sound names stand f.others end high units u asc j n stays)
        ∙ ap (λ (ks : List CutAt). size_patch riff f.size n ++ patches_from 8 8 (u.cuts.items ++ ks)) (laid (kept hows (how both.1)) still last)
        ∙ ap (λ (ks : List CutAt). size_patch riff f.size n ++ patches_from 8 8 ks) (append-nil u.cuts.items ∙ j.cuts_are)
        ∙ ap (λ (qs : List Patch). size_patch riff f.size n ++ qs)
        (exact_front 8 names.at end j.low (names.cuts.items ++ j.high) (spans_low 8 12 names.at j.low (omega arith) low_span) (low_exact (how both.1)) behind_span
        ∙ ap (λ (qs : List Patch). flat_map patch_of j.low ++ qs) (tail hows) ∙ ap (λ (qs : List Patch). qs ++ (N ++ H.high_patches_new)) patch_sides.0 ∙ ap (λ (qs : List Patch). H.low_patches ++ (qs ++ H.high_patches_new)) np
        ∙ sym (puts_between from (from + y) NP H.low_patches H.high_patches_new up H.patches_before (slid_new (from + x) (from + y) H.high_patches H.high_patches_new H.slid_patches)) ∙ ap (put_patches NP) (sym model_patches))
        ∙ ap (λ (q : ℕ). size_patch riff q n ++ put_patches NP (unit_patches (riff_fill (ends_file a)) 12 (pieces shut (new_cells na c.infos)))) known.size
        ∙ ap (λ (q : ℕ). size_patch riff (length (inner a.children a.left)) q ++ put_patches NP (unit_patches (riff_fill (ends_file a)) 12 (pieces shut (new_cells na c.infos)))) n_is

  -- ---- how long the new file is

  abbrev rb : Avi
  rb = renewed_avi (writes (move (goes (avi_of b) c)) b) (avi_of b)

  avi_long : (v : Avi) → length (spell_avi v) ≡ 8 + length (inner v.children v.left) + (length v.pad + length (behind v))
  avi_long v = omega (arith, length-append (spell (form_of v)) (behind v), length-append (inner v.children v.left) v.pad)

  file_is : length (joined_file b c) ≡ 8 + length (inner (children_after a c) a.left) + (length (pad_after a c) + length (behind a))
  unfolding joined_file
  file_is =
      ap (λ (v : Avi). length (spell_avi (joined v c))) (read_again b bytes s (move (goes a c)))
      ∙ avi_long (joined rb c)
      ∙ omega (arith, size_stays b bytes s (move (goes a c)) c, ap length (pad_stays b bytes s (move (goes a c)) c), behind_length (writes (move (goes a c)) b) a)

  size_same : (gained (sizes f n) ≡ lost (sizes f n))
  size_same = go (eqb n f.size)
    where
      go : (t : Bool) → gained (cond t [] (size_at false n ∷ [])) ≡ lost (cond t [] (size_at false n ∷ []))
      go true = refl
      go false = omega arith

  pub long_told : spliced_len f.len (sizes f n ++ (u.cuts.items ++ pads f n stays)) ≡ length (joined_file b c)
  long_told =
      let whole : f.len ≤ length b = omega (arith, known.len) in
      let ks = u.cuts.items in
      let qs = pads f n stays in
      let asc_all = padded_asc f sound names stand f.others end high units u asc j n stays in
      let asc_units = file_asc f sound names stand f.others end high units u asc j in
      let all = held b 8 f.len (ks ++ qs) whole asc_all in
      let one = held b 0 f.len ks whole asc_units in
      let P = pad_cut (8 + length (inner a.children a.left)) a.pad (pad_after a c) in
      let pads_in = pads_are b bytes s c f known sound names are stand end high ps follow units u asc ends ends_is out shapes j n n_is stays stays_is in
      let split : map (cut_in b) (ks ++ qs) ≡ map (cut_in b) ks ++ P = map-append (cut_in b) ks qs ∙ ap (λ (cs : List Rattle.container_model.specs.Splice.Cut). map (cut_in b) ks ++ cs) pads_in in
      let both = brings_both (map (cut_in b) ks) P in
      let sums = pad_sums (8 + length (inner a.children a.left)) a.pad (pad_after a c) in
      let two = sized_both (sizes f n) (ks ++ qs) in
      omega (
        arith,
        sum,
        n_is,
        file_is,
        file_long b bytes f known,
        known.len,
        known.size,
        all.0,
        all.1,
        one.0,
        one.1,
        ap brings split,
        ap takes split,
        both.0,
        both.1,
        sums,
        two.0,
        two.1,
        size_same,
        lost_low 0 f.len ks asc_units,
        lost_low 0 f.len (sizes f n ++ (ks ++ qs)) (sizes_ascend f n f.len (ks ++ qs) asc_all),
      )
