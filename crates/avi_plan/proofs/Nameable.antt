-- What an edit of names makes of `hdrl`, as it is told.
use Rattle.std.proofs.Common.{◌≡◌, ◌∙◌, ◌⊎◌, ℕ, ◌+◌, ◌%◌, ◌≤◌, Bool, true, false, cond, List, [], ◌∷◌, ◌++◌, length, map, min, refl, sym, ap, subst, arith, inl, inr, append-nil, length-append}
use Rattle.std.specs.Prelude.{◌&&◌}
use Rattle.std.specs.List.{AllByRecursion, flat_map, list_all}
use Rattle.std.proofs.lemmas.Bool.{and_parts}
use Rattle.me_bytes.specs.Bytes.{IsBytes}
use Rattle.part_tree.specs.declared.names.Span.{Span}
use Rattle.container_model.specs.Chunk.{Chunk, spell}
use Rattle.container_model.specs.Items.{is_nil}
use Rattle.container_model.specs.Stood.{Stood, bare, only, stood}
use Rattle.container_model.specs.Units.{lacks_pad}
use Rattle.carrier_model.specs.Cells.{counted}
use Rattle.carrier_model.specs.Info.{list_run}
use Rattle.unit_plan.specs.Cuts.{FitsIn, IsExact, SpansAscend, cut_in, patch_of}
use Rattle.unit_plan.specs.Sized.{gained, lost}
use Rattle.unit_plan.specs.declared.cut.CutAt.{CutAt}
use Rattle.unit_plan.proofs.Spans.{ascend_high, lost_low}
use Rattle.avi_model.specs.Avi.{Avi, avi_of, kids, strls}
use Rattle.avi_model.specs.Named.{Names, Site, ends_file, ends_list, hdrl_from, hdrl_named, hdrl_site, is_hdrl, is_named, is_strl, new_names, sites_from, sites_in}
use Rattle.avi_model.specs.RoomAfter.{hdrl_patches, strl_fits}
use Rattle.avi_model.specs.Streams.{hdrl_parts, kids_parts, stream_parts, strl_laid, strl_parts}
use Rattle.avi_model.specs.Support.{count_kids}
use Rattle.avi_model.proofs.NamesHdrl.{FirstHdrl}
use Rattle.avi_plan.specs.Form.{IsSoundForm}
use Rattle.avi_plan.specs.Lists.{IsSoundList, keeps_pad, lacks_then, len_then, list_cuts, size_then}
use Rattle.avi_plan.specs.NamesAt.{AreNames, StandNames, hdrl_needed}
use Rattle.avi_plan.specs.Streams.{AreInside, LiesIn, StreamsTold, TellsStreams, count_now, count_was, named_among}
use Rattle.avi_plan.specs.declared.form.FormAt.{FormAt}
use Rattle.avi_plan.specs.declared.list.ListAt.{ListAt}
use Rattle.avi_plan.specs.declared.names.NamesAt.{NamesAt}
use Rattle.avi_plan.specs.declared.streams.StreamSpans.{StreamSpans}
use Rattle.avi_plan.proofs.Around.{IsListOf, around_ascend, around_exact, around_fits, around_sum, spelled_long}
use Rattle.avi_plan.proofs.Hdrled.{cuts_are, fit_is, inside_file, lacks_it, len_is, next_told, patches_are, place_is, r, site, site_is, sites_named, size_told}
use Rattle.avi_plan.proofs.Sited.{hdrl_found, strl_sites}

-- ---- how many chunks the streams' lists have

module _ (e : Names) where
  kid_counts : (t : Bool) (n at : ℕ) (c : Chunk) (olds : List Stood)
      → cond (is_strl c) (strl_parts e t n c) 0 + count_was (cond (is_strl c && is_named e n) (record { at = at; ends = t; stream = n; chunk = c } ∷ []) []) + count_kids olds
      ≡ count_kids (cond (is_strl c) (record { at = at; chunk = bare c } ∷ olds) olds) + count_now e (cond (is_strl c && is_named e n) (record { at = at; ends = t; stream = n; chunk = c } ∷ []) [])
  kid_counts t n at c olds = go (is_strl c) (is_named e n)
    where
      go : (u v : Bool)
          → cond u (length (cond v (strl_laid t (new_names e n) c) (list_run c).chunks)) 0 + count_was (cond (u && v) (record { at = at; ends = t; stream = n; chunk = c } ∷ []) []) + count_kids olds
          ≡ count_kids (cond u (record { at = at; chunk = bare c } ∷ olds) olds) + count_now e (cond (u && v) (record { at = at; ends = t; stream = n; chunk = c } ∷ []) [])
      go true true = omega arith
      go true false = omega arith
      go false v = omega arith

  was-append : (a c : List Site) → count_was (a ++ c) ≡ count_was a + count_was c
  was-append [] c = omega arith
  was-append (s ∷ a) c = omega (arith, was-append a c)

  now-append : (a c : List Site) → count_now e (a ++ c) ≡ count_now e a + count_now e c
  now-append [] c = omega arith
  now-append (s ∷ a) c = omega (arith, now-append a c)

  kids_count : (t : Bool) (n at : ℕ) (cs : List Chunk) → kids_parts e t n cs + count_was (sites_from e t n at cs) ≡ count_kids (only is_strl (stood at cs)) + count_now e (sites_from e t n at cs)
  kids_count t n at [] = refl
  kids_count t n at (c ∷ cs) =
      let u = t && is_nil cs in
      let k = counted is_strl n c in
      let next = at + length (spell c) in
      let here : List Site = cond (is_strl c && is_named e n) (record { at = at; ends = u; stream = n; chunk = c } ∷ []) [] in
      let there = sites_from e t k next cs in
      omega (arith, kid_counts u n at c (only is_strl (stood next cs)), kids_count t k next cs, was-append here there, now-append here there)

  -- those of the first hdrl
  first_parts : (t : Bool) (at : ℕ) (cs : List Chunk) (s : Site) → hdrl_from t at cs ≡ s ∷ [] → hdrl_parts e t cs ≡ kids_parts e (s.ends && ends_list s.chunk) 0 (list_run s.chunk).chunks
  first_parts t at [] s i = absurd cc
  first_parts t at (c ∷ cs) s i = go (is_hdrl c) i (λ k. first_parts t (at + length (spell c)) cs s k)
    where
      kids_in : List Site → ℕ
      kids_in [] = 0
      kids_in (x ∷ xs) = kids_parts e (x.ends && ends_list x.chunk) 0 (list_run x.chunk).chunks

      go : (u : Bool) → cond u (record { at = at; ends = t && is_nil cs; stream = 0; chunk = c } ∷ []) (hdrl_from t (at + length (spell c)) cs) ≡ s ∷ []
          → (hdrl_from t (at + length (spell c)) cs ≡ s ∷ [] → hdrl_parts e t cs ≡ kids_parts e (s.ends && ends_list s.chunk) 0 (list_run s.chunk).chunks)
          → cond u (kids_parts e ((t && is_nil cs) && ends_list c) 0 (list_run c).chunks) (hdrl_parts e t cs) ≡ kids_parts e (s.ends && ends_list s.chunk) 0 (list_run s.chunk).chunks
      go true k again = ap kids_in k
      go false k again = again k

-- ---- all of it

module _ (b : List ℕ) (bytes : IsBytes b) (e : Names) (f : FormAt) (hdrl : Span) (streams : List Span) (tells : TellsStreams b f hdrl streams) where
  abbrev a : Avi
  a = avi_of b

  abbrev pub first : FirstHdrl e (ends_file (avi_of b)) 12 (avi_of b).children
  first = r b bytes e f hdrl streams tells

  abbrev pub h : Site
  h = site b bytes e f hdrl streams tells

  old_strls : count_kids (strls (avi_of b)) ≡ count_kids (only is_strl (stood (h.at + 12) (list_run first.hdrl).chunks))
  old_strls =
      let found = hdrl_found (ends_file a) 12 a.children h (site_is b bytes e f hdrl streams tells) in
      ap (λ (xs : List Stood). count_kids (only is_strl (flat_map kids xs))) found ∙ ap (λ (xs : List Stood). count_kids (only is_strl xs)) (append-nil (kids (record { at = h.at; chunk = bare first.hdrl })))

  parts : stream_parts (avi_of b) e + count_was (sites_in e h) ≡ count_kids (strls (avi_of b)) + count_now e (sites_in e h)
  parts =
      omega (
        arith,
        first_parts e (ends_file a) 12 a.children h (site_is b bytes e f hdrl streams tells),
        old_strls,
        kids_count e (h.ends && ends_list first.hdrl) 0 (h.at + 12) (list_run first.hdrl).chunks,
      )

  -- the lists of all streams
  abbrev pub the_sites : List Site
  the_sites = strl_sites (h.ends && ends_list first.hdrl) 0 (h.at + 12) (list_run first.hdrl).chunks

  module _ (l : ListAt) (sound : IsSoundList l) (at : l.at + 8 ≡ hdrl.at) (size : l.size ≡ hdrl.len) (next : l.next ≡ min (8 + f.size) (hdrl.at + hdrl.len + hdrl.len % 2)) (found : StreamSpans)
      (told : StreamsTold b e (named_among e (strl_sites (h.ends && ends_list first.hdrl) 0 (h.at + 12) (list_run first.hdrl).chunks)) found) (are : AreInside (hdrl.at + 4) (hdrl.at + hdrl.len) f.len found) where
    of : IsListOf l h.at first.hdrl
    of =
        let place : l.next ≡ h.at + length (spell first.hdrl) = next ∙ sym (next_told b bytes e f hdrl streams tells) in
        let here : l.at ≡ h.at = omega (arith, at, place_is b bytes e f hdrl streams tells) in
        let long : l.size ≡ length first.hdrl.body = size ∙ size_told b bytes e f hdrl streams tells in
        record {
          form_is = first.plain.form_is;
          id_len = first.plain.id_len;
          at_is = here;
          size_is = long;
          next_is = place;
          padded = omega (arith, place, here, long, spelled_long first.hdrl first.plain.form_is first.plain.id_len, sound.padded);
        }

    named_told : StreamsTold b e (sites_in e h) found
    named_told = subst (λ (ss : List Site). StreamsTold b e ss found) (sites_named b bytes e f hdrl streams tells) told

    ascend : SpansAscend (l.at + 12) found.cuts.items (l.at + 8 + l.size)
    ascend =
        let low : hdrl.at + 4 ≡ l.at + 12 = omega (arith, at) in
        let high : hdrl.at + hdrl.len ≡ l.at + 8 + l.size = omega (arith, at, size) in
        subst (λ (p : ℕ). SpansAscend p found.cuts.items (l.at + 8 + l.size)) low (ascend_high (hdrl.at + 4) found.at (l.at + 8 + l.size) found.cuts.items (omega (arith, are.inside, high)) are.ascend)

    within : l.next ≤ length b
    within = omega (arith, of.next_is, inside_file b bytes e f hdrl streams tells)

    pub names_told : (n : NamesAt) → n.at ≡ l.at → n.next ≡ l.next → n.cuts.items ≡ list_cuts l found.cuts.items → n.fits ≡ (found.fits && keeps_pad l (size_then l found.cuts.items)) → n.len ≡ len_then l (size_then l found.cuts.items)
        → n.lacks_pad ≡ lacks_then l (size_then l found.cuts.items) → n.was ≡ found.was → n.now ≡ found.now → AreNames b e n
    names_told n place end cuts fits len lacks was now =
        let one = site_is b bytes e f hdrl streams tells in
        let p = first.plain in
        let o = first.opens in
        let fit : n.fits ≡ list_all (strl_fits e) (sites_in e h) = fits ∙ fit_is e h p o.0 o.1 b l sound of within found named_told ascend in
        record {
          at = ap (map (λ (s : Site). s.at)) one ∙ ap (λ (k : ℕ). k ∷ []) (sym (place ∙ of.at_is));
          next = ap (map (λ (s : Site). s.at + length (spell s.chunk))) one ∙ ap (λ (k : ℕ). k ∷ []) (sym (end ∙ of.next_is));
          cuts_are = ap (map (cut_in b)) cuts ∙ cuts_are e h p o.0 o.1 b l sound of within found named_told ascend ∙ sym (append-nil (hdrl_needed e h)) ∙ ap (flat_map (hdrl_needed e)) (sym one);
          patches = λ g. ap (flat_map patch_of) cuts ∙ patches_are e h p o.0 o.1 b l sound of within found named_told ascend (sym fits ∙ g) ∙ sym (append-nil (hdrl_patches e h)) ∙ ap (flat_map (hdrl_patches e)) (sym one);
          fits = fit ∙ ap (list_all (strl_fits e)) (sym (append-nil (sites_in e h))) ∙ ap (λ (ss : List Site). list_all (strl_fits e) (flat_map (sites_in e) ss)) (sym one);
          lacks = ap (map (λ (s : Site). lacks_pad (hdrl_named e s.ends s.chunk))) one ∙ ap (λ (t : Bool). t ∷ []) (lacks_it e h p o.0 o.1 b l sound of within found named_told ascend ∙ sym lacks);
          len = ap (map (λ (s : Site). length (spell (hdrl_named e s.ends s.chunk)))) one ∙ ap (λ (k : ℕ). k ∷ []) (len_is e h p o.0 o.1 b l sound of within found named_told ascend ∙ sym len);
          parts = omega (arith, parts, was, now, named_told.was, named_told.now);
        }

-- ---- by numbers alone

pub names_stand : (f : FormAt) (hdrl : Span) (l : ListAt) (found : StreamSpans) (n : NamesAt) → IsSoundForm f → LiesIn f hdrl → IsSoundList l → l.at + 8 ≡ hdrl.at → l.size ≡ hdrl.len → l.next ≤ 8 + f.size → AreInside (hdrl.at + 4) (hdrl.at + hdrl.len) f.len found
    → n.at ≡ l.at → n.next ≡ l.next → n.cuts.items ≡ list_cuts l found.cuts.items → n.fits ≡ (found.fits && keeps_pad l (size_then l found.cuts.items)) → n.len ≡ len_then l (size_then l found.cuts.items) → StandNames f.len n
names_stand f hdrl l found n form lies sound at size high are place end cuts fits len = record {
  low = omega (arith, lies.low, at, place);
  order = omega (arith, place, end, sound.whole);
  ascend = subst (λ (ks : List CutAt). SpansAscend (n.at + 1) ks n.next) (sym cuts) (subst (λ (p : ℕ). SpansAscend (p + 1) (list_cuts l ks) n.next) (sym place) (subst (SpansAscend (l.at + 1) (list_cuts l ks)) (sym end) (around_ascend l sound m ks ascend)));
  sum = omega (arith, place, end, len, ap lost cuts, ap gained cuts, around_sum l sound m ks (omega (arith, lost_low (l.at + 12) (l.at + 8 + l.size) ks ascend)));
  fits = λ g. subst (λ (js : List CutAt). AllByRecursion IsExact js ⊎ ((n.next ≡ f.len) × FitsIn f.len js)) (sym cuts) (go (and_parts found.fits (keeps_pad l m) (sym fits ∙ g)));
}
  where
    ks : List CutAt
    ks = found.cuts.items

    m : ℕ
    m = size_then l found.cuts.items

    ascend : SpansAscend (l.at + 12) found.cuts.items (l.at + 8 + l.size)
    ascend =
        let low : hdrl.at + 4 ≡ l.at + 12 = omega (arith, at) in
        let top : hdrl.at + hdrl.len ≡ l.at + 8 + l.size = omega (arith, at, size) in
        subst (λ (p : ℕ). SpansAscend p found.cuts.items (l.at + 8 + l.size)) low (ascend_high (hdrl.at + 4) found.at (l.at + 8 + l.size) found.cuts.items (omega (arith, are.inside, top)) are.ascend)

    go : (found.fits ≡ true) × (keeps_pad l (size_then l found.cuts.items) ≡ true) → AllByRecursion IsExact (list_cuts l found.cuts.items) ⊎ ((n.next ≡ f.len) × FitsIn f.len (list_cuts l found.cuts.items))
    go p = by (are.fits p.0)
      where
        by : AllByRecursion IsExact found.cuts.items ⊎ ((found.at ≡ f.len) × FitsIn f.len found.cuts.items) → AllByRecursion IsExact (list_cuts l found.cuts.items) ⊎ ((n.next ≡ f.len) × FitsIn f.len (list_cuts l found.cuts.items))
        by (inl x) = inl (around_exact l sound (size_then l found.cuts.items) p.1 found.cuts.items x)
        by (inr x) = inr (omega (arith, x.0, are.inside, end, at, size, sound.whole, high, form.inside), around_fits l sound (size_then l found.cuts.items) p.1 f.len found.cuts.items x.1)
