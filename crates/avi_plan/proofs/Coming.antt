-- What the places of the first form and the names come to is what the edit of the file comes to.
use Rattle.std.proofs.Common.{◌≡◌, ◌∙◌, ◌⊎◌, ℕ, ◌+◌, ◌-◌, ◌≤◌, ◌<◌, Bool, true, false, cond, eqb, ltb, List, [], ◌∷◌, ◌++◌, length, map, refl, sym, ap, subst, arith, inl, inr, append_assoc}
use Rattle.std.specs.Prelude.{◌&&◌, codes}
use Rattle.std.specs.Str.{bytes_eq}
use Rattle.std.specs.List.{AllByRecursion, flat_map}
use Rattle.std.proofs.lemmas.Bool.{cond-false, cond-true, eq-eqb, le-ltb, lt-ltb}
use Rattle.std.proofs.lemmas.List.{append-nil, length-append, map-append}
use Rattle.me_bytes.specs.Bytes.{IsBytes}
use Rattle.part_tree.proofs.Places.{bytes_refl}
use Rattle.container_model.specs.Chunk.{Chunk, spell, spell_all}
use Rattle.container_model.specs.Splice.{Ascend, Cut}
use Rattle.container_model.specs.Units.{cuts, lacks_pad, padded, shut, units as pieces}
use Rattle.container_model.proofs.Copied.{spell_some}
use Rattle.container_model.proofs.Goes.{block_pieces}
use Rattle.container_model.proofs.Units.{units_bring}
use Rattle.carrier_model.specs.Info.{is_type, list_run, riff_fill}
use Rattle.carrier_model.specs.RiffForm.{new_pad, pad_cut}
use Rattle.avi_model.specs.After.{Changes, children_after, pad_after}
use Rattle.avi_model.specs.Avi.{Avi, avi_of, behind, inner}
use Rattle.avi_model.specs.JoinedSplices.{is_behind, joined_cuts, old_list_cuts, old_place}
use Rattle.avi_model.specs.Named.{Names, Site, ends_file, hdrl_named, hdrl_site, is_hdrl, name_cuts, named}
use Rattle.avi_model.specs.NewFile.{new_cells, put_cuts}
use Rattle.avi_model.specs.RoomAfter.{lists_fit, names_fit}
use Rattle.avi_model.specs.Support.{Supported}
use Rattle.avi_model.proofs.JoinedOne.{joined_ascend}
use Rattle.avi_model.proofs.NamedAlike.{not_info}
use Rattle.avi_model.proofs.NamesSet.{supported_children}
use Rattle.avi_model.proofs.Past.{children_length}
use Rattle.avi_model.proofs.Tables.{was_new}
use Rattle.unit_plan.specs.Cuts.{SpansAscend, cut_in, outcome_in}
use Rattle.unit_plan.specs.Places.{Follow, shape_in}
use Rattle.unit_plan.specs.Rows.{IsPartCount, Outcome, cells_outcome, none, row}
use Rattle.unit_plan.specs.Shapes.{shape_of}
use Rattle.unit_plan.specs.Sized.{spliced_len}
use Rattle.unit_plan.specs.Sized as sized
use Rattle.unit_plan.specs.declared.cut.CutAt.{CutAt}
use Rattle.unit_plan.specs.declared.place.Place.{Place}
use Rattle.unit_plan.specs.declared.row.UnitCuts.{UnitCuts}
use Rattle.unit_plan.proofs.Outcomes.{cells_told}
use Rattle.unit_plan.proofs.Spans.{lost_low}
use Rattle.unit_plan.proofs.Spliced.{ascend_in}
use Rattle.avi_plan.specs.declared.form.FormAt.{FormAt}
use Rattle.avi_plan.specs.declared.names.NamesAt.{NamesAt}
use Rattle.avi_plan.specs.Drops.{Drops}
use Rattle.avi_plan.specs.Form.{IsFormOf, IsSoundForm, keeps_pad, pad_now, pads, sizes}
use Rattle.avi_plan.specs.Form as form
use Rattle.avi_plan.specs.NamesAt.{AreNames, StandNames, name_needed}
use Rattle.avi_plan.specs.Row.{IsJoined, part_count, told_row}
use Rattle.avi_plan.proofs.Drops.{puts_drop}
use Rattle.avi_plan.proofs.Numbers.{file_asc, padded_asc}
use Rattle.avi_plan.proofs.Pads.{file_long, new_zeros, pad_is}
use Rattle.avi_plan.proofs.Slid.{Halves, Slid, rows_halves}
use Rattle.avi_plan.proofs.Sums.{all_past, brings, brings_both, held, nil_eqb, put_between, row_end, sized_both, slid_sums, split_cuts, takes}
use Rattle.avi_plan.proofs.Swapped.{FirstSwap, Swap, edit_swap, first_swap}

abbrev head_or : {X : Type 0} → X → List X → X
head_or d [] = d
head_or d (x ∷ xs) = x

pub counts_parts : IsPartCount part_count
counts_parts = record { pads = λ c. by c (is_type (codes "INFO") c); padding = λ body. refl }
  where
    by : (c : Chunk) (t : Bool) → length (cond t (padded c ∷ (list_run c).chunks) (padded c ∷ [])) ≡ length (cond t (c ∷ (list_run c).chunks) (c ∷ []))
    by c true = refl
    by c false = refl

one_part : (c : Chunk) → is_hdrl c ≡ true → part_count c ≡ 1
one_part c i = ap (λ (t : Bool). length (cond t (c ∷ (list_run c).chunks) (c ∷ []))) (not_info c i)

inner_long : (cs : List Chunk) (left : List ℕ) → length (inner cs left) ≡ 4 + (length (spell_all cs) + length left)
inner_long cs left = omega (arith, length-append (spell_all cs) left)

module _ (b : List ℕ) (bytes : IsBytes b) (s : Supported b) (c : Changes) (f : FormAt) (known : IsFormOf b f) (sound : IsSoundForm f) (names : NamesAt) (are : AreNames b c.names names) (stand : StandNames f.len names)
    (end : ℕ) (high : end ≤ 8 + f.size) (ps : List Place) (follow : Follow 12 ps end) (units u : UnitCuts) (asc : SpansAscend 12 units.cuts.items end) (ends : Bool) (ends_is : ends ≡ eqb end f.len)
    (out : outcome_in b units ≡ row ends 12 none (map (shape_in b) ps)) (shapes : map (shape_in b) ps ≡ told_row names.lacks_pad (new_cells (avi_of b) c.infos)) (j : IsJoined f.others end names units u) where
  abbrev a : Avi
  a = avi_of b

  abbrev na : Avi
  na = named (avi_of b) c.names

  pub fs : FirstSwap c.names (ends_file (avi_of b)) 12 (avi_of b).children
  fs = first_swap c.names (ends_file a) 12 12 a.children (supported_children b bytes s) s.some_hdrl

  abbrev pub h : Chunk
  h = fs.hdrl

  abbrev pub k : Chunk
  k = hdrl_named c.names fs.ends fs.hdrl

  abbrev pub from : ℕ
  from = 12 + fs.front

  abbrev pub x : ℕ
  x = length (spell fs.hdrl)

  abbrev pub y : ℕ
  y = length (spell (hdrl_named c.names fs.ends fs.hdrl))

  some : 0 < x
  some = spell_some h

  some_new : 0 < y
  some_new = spell_some k

  pub at_is : names.at ≡ from
  at_is = sym (ap (head_or 0) (sym (ap (map (λ (s : Site). s.at)) fs.site) ∙ are.at))

  pub next_is : names.next ≡ from + x
  next_is = sym (ap (head_or 0) (sym (ap (map (λ (s : Site). s.at + length (spell s.chunk))) fs.site) ∙ are.next))

  lacks_is : names.lacks_pad ≡ lacks_pad k
  lacks_is = sym (ap (head_or true) (sym (ap (map (λ (s : Site). lacks_pad (hdrl_named c.names s.ends s.chunk))) fs.site) ∙ are.lacks))

  pub len_is : names.len ≡ y
  len_is = sym (ap (head_or 0) (sym (ap (map (λ (s : Site). length (spell (hdrl_named c.names s.ends s.chunk)))) fs.site) ∙ are.len))

  inside : end ≤ length b
  inside = omega (arith, high, sound.inside, known.len)

  pub end_is : end ≡ 12 + length (spell_all (avi_of b).children)
  end_is = row_end b end ps names.lacks_pad (new_cells a c.infos) inside follow shapes ∙ ap (λ (cs : List Chunk). 12 + length (spell_all cs)) (was_new a c.infos)

  pub ends_file_is : ends ≡ ends_file (avi_of b)
  ends_file_is = ends_is ∙ nil_eqb a.left a.pad (behind a) end f.len (omega (arith, known.len, file_long b bytes f known, end_is, inner_long a.children a.left))

  pub swap : Swap h k fs.front (new_cells (avi_of b) c.infos) (new_cells (named (avi_of b) c.names) c.infos)
  swap = edit_swap h k (not_info h fs.typed) (not_info k fs.typed_new) fs.met fs.met_new c.infos fs.front (map Rattle.avi_model.specs.Named.cell_of a.children) (map Rattle.avi_model.specs.Named.cell_of na.children) fs.swap

  pub halves : Halves from x y (row ends 12 none (told_row (lacks_pad k) (new_cells (avi_of b) c.infos))) (row ends 12 none (map (shape_of part_count) (new_cells (named (avi_of b) c.names) c.infos)))
  halves = rows_halves h k fs.typed (one_part h fs.typed ∙ sym (one_part k fs.typed_new)) ends fs.front 12 from none (new_cells a c.infos) (new_cells na c.infos) swap refl tt

  pub units_are : outcome_in b units ≡ row ends 12 none (told_row (lacks_pad k) (new_cells (avi_of b) c.infos))
  units_are = out ∙ ap (row ends 12 none) shapes ∙ ap (λ (t : Bool). row ends 12 none (told_row t (new_cells a c.infos))) lacks_is

  pub model_is : row ends 12 none (map (shape_of part_count) (new_cells (named (avi_of b) c.names) c.infos)) ≡ cells_outcome part_count (ends_file (avi_of b)) 12 (new_cells (named (avi_of b) c.names) c.infos)
  model_is = cells_told part_count ends counts_parts 12 (new_cells na c.infos) ∙ ap (λ (t : Bool). cells_outcome part_count t 12 (new_cells na c.infos)) ends_file_is

  -- ---- the spans of the lists

  all_low : (q : ℕ) (ks : List CutAt) → q ≡ from → AllByRecursion (λ (k : CutAt). k.span.at + k.span.len ≤ q) ks → AllByRecursion (λ (d : Cut). d.at ≤ from) (map (cut_in b) ks)
  all_low q [] e h = tt
  all_low q (k ∷ ks) e h = (omega (arith, e, h.0), all_low q ks e h.1)

  all_high : (q : ℕ) (ks : List CutAt) → from < q → AllByRecursion (λ (k : CutAt). q ≤ k.span.at) ks → AllByRecursion (λ (d : Cut). from < d.at) (map (cut_in b) ks)
  all_high q [] e h = tt
  all_high q (k ∷ ks) e h = (omega (arith, e, h.0), all_high q ks e h.1)

  slid_high : (p q : ℕ) (cs ds : List Cut) → from < p → Slid p q cs ds → AllByRecursion (λ (d : Cut). from < d.at) cs
  slid_high p q [] ds lt h = tt
  slid_high p q (c ∷ cs) [] lt h = absurd h
  slid_high p q (c ∷ cs) (d ∷ ds) lt h = (omega (arith, lt, h.0), slid_high p q cs ds lt h.4)

  pub sides : (map (cut_in b) j.low ≡ halves.low) × (map (cut_in b) j.high ≡ halves.high)
  sides =
      split_cuts from (map (cut_in b) j.low) (map (cut_in b) j.high) halves.low halves.high
      (sym (map-append (cut_in b) j.low j.high) ∙ ap (map (cut_in b)) (sym j.split) ∙ ap (λ (o : Outcome). o.cuts) units_are ∙ halves.old_cuts)
      (all_low names.at j.low at_is j.beside.low_ends)
      (all_high names.next j.high (omega (arith, next_is, some)) j.beside.high_begins)
      halves.low_before
      (slid_high (from + x) (from + y) halves.high halves.high_new (omega (arith, some)) halves.slid)

  model_cuts : cuts (riff_fill (ends_file (avi_of b))) 12 (pieces shut (new_cells (named (avi_of b) c.names) c.infos)) ≡ halves.low ++ halves.high_new
  model_cuts = sym (ap (λ (o : Outcome). o.cuts) model_is) ∙ halves.new_cuts

  abbrev m : ℕ
  m = length (spell_all (avi_of b).children)

  abbrev n' : ℕ
  n' = length (spell_all (named (avi_of b) c.names).children)

  abbrev told_at : ℕ → ℕ
  told_at p = cond (ltb from p) ((p + m) - n') p

  place_is : (p : ℕ) → old_place (avi_of b) c.names p ≡ told_at p
  place_is p = ap (λ (ss : List Site). cond (is_behind ss p) ((p + m) - n') p) fs.site

  abbrev back : Cut → Cut
  back d = record d { at = old_place (avi_of b) c.names d.at }

  low_same : (cs : List Cut) → AllByRecursion (λ (d : Cut). d.at ≤ from) cs → map back cs ≡ cs
  low_same [] h = refl
  low_same (d ∷ cs) h =
      let e : old_place a c.names d.at ≡ d.at = place_is d.at ∙ cond-false (ltb from d.at) ((d.at + m) - n') d.at (le-ltb from d.at h.0) in
      ap (λ (q : ℕ). record d { at = q } ∷ map back cs) e ∙ ap (λ (ds : List Cut). d ∷ ds) (low_same cs h.1)

  high_same : (cs ds : List Cut) → Slid (from + x) (from + y) cs ds → map back ds ≡ cs
  high_same [] [] h = refl
  high_same [] (d ∷ ds) h = absurd h
  high_same (c ∷ cs) [] h = absurd h
  high_same (e ∷ cs) (d ∷ ds) h =
      let far : from < d.at = omega (arith, h.0, h.1, some_new) in
      let place : old_place a c.names d.at ≡ e.at = place_is d.at ∙ cond-true (ltb from d.at) ((d.at + m) - n') d.at (lt-ltb from d.at far) ∙ omega (arith, h.0, h.1, fs.grown) in
      ap (λ (q : ℕ). record d { at = q } ∷ map back ds) place
      ∙ ap (λ (q : ℕ). record { at = e.at; len = q; bytes = d.bytes } ∷ map back ds) (sym h.2)
      ∙ ap (λ (w : List ℕ). record { at = e.at; len = e.len; bytes = w } ∷ map back ds) (sym h.3)
      ∙ ap (λ (es : List Cut). e ∷ es) (high_same cs ds h.4)

  front_small : from + x ≤ 12 + m
  front_small = omega (arith, next_is, j.beside.inside, end_is)

  pad_same : map back (pad_cut (8 + length (inner na.children na.left)) a.pad (pad_after a c)) ≡ pad_cut (8 + length (inner a.children a.left)) a.pad (pad_after a c)
  pad_same = go (bytes_eq a.pad (pad_after a c))
    where
      place : old_place (avi_of b) c.names (8 + length (inner na.children na.left)) ≡ 8 + length (inner a.children a.left)
      place =
          let p = 8 + length (inner na.children na.left) in
          let p_is : p ≡ 12 + (n' + length a.left) = omega (arith, inner_long na.children na.left) in
          place_is p ∙ cond-true (ltb from p) ((p + m) - n') p (lt-ltb from p (omega (arith, p_is, front_small, fs.grown, some_new))) ∙ omega (arith, p_is, inner_long a.children a.left)

      go : (t : Bool) → map back (cond t [] (record { at = 8 + length (inner na.children na.left); len = length a.pad; bytes = pad_after a c } ∷ [])) ≡ cond t [] (record { at = 8 + length (inner a.children a.left); len = length a.pad; bytes = pad_after a c } ∷ [])
      go true = refl
      go false = ap (λ (q : ℕ). record { at = q; len = length a.pad; bytes = pad_after a c } ∷ []) place

  pub old_lists : old_list_cuts (avi_of b) c ≡ (halves.low ++ halves.high) ++ pad_cut (8 + length (inner (avi_of b).children (avi_of b).left)) (avi_of b).pad (pad_after (avi_of b) c)
  old_lists =
      let tail = pad_cut (8 + length (inner na.children na.left)) a.pad (pad_after a c) in
      ap (λ (cs : List Cut). map back (cs ++ tail)) model_cuts
      ∙ map-append back (halves.low ++ halves.high_new) tail
      ∙ ap (λ (cs : List Cut). cs ++ map back tail) (map-append back halves.low halves.high_new ∙ ap (λ (cs : List Cut). cs ++ map back halves.high_new) (low_same halves.low halves.low_before) ∙ ap (λ (cs : List Cut). halves.low ++ cs) (high_same halves.high halves.high_new halves.slid))
      ∙ ap (λ (cs : List Cut). (halves.low ++ halves.high) ++ cs) pad_same

  -- ---- the size

  abbrev gone : ℕ
  gone = length (spell_all (children_after (avi_of b) c))

  units_sum : brings (halves.low ++ halves.high) + n' ≡ takes (halves.low ++ halves.high) + gone
  units_sum =
      let fill = riff_fill (ends_file a) in
      let qs = pieces shut (new_cells na c.infos) in
      let bl = block_pieces fill 12 12 qs (units_bring shut (new_cells na c.infos) tt) in
      let p = 12 + Rattle.container_model.proofs.Places.old_length qs in
      let z = all_past 12 p p (cuts fill 12 qs) bl.ascend (omega arith) in
      let old = children_length na c.infos in
      let w = slid_sums (from + x) (from + y) halves.high halves.high_new halves.slid in
      let l = brings_both halves.low halves.high in
      let r = brings_both halves.low halves.high_new in
      omega (arith, bl.past p (omega arith), z.0, z.1, old, ap brings model_cuts, ap takes model_cuts, w.0, w.1, l.0, l.1, r.0, r.1)

  pub size_told : (n : ℕ) → n + f.len ≡ spliced_len f.len u.cuts.items + f.size → n ≡ length (inner (children_after (avi_of b) c) (avi_of b).left)
  size_told n sum =
      let whole : f.len ≤ length b = omega (arith, known.len) in
      let asc_low = Rattle.avi_plan.proofs.Numbers.low_asc f sound names stand f.others end high units u asc j in
      let asc_high = Rattle.avi_plan.proofs.Numbers.high_asc f sound names stand f.others end high units u asc j in
      let hl = held b 12 names.at j.low (omega (arith, stand.order, j.beside.inside, inside)) asc_low in
      let hh = held b names.next end j.high inside asc_high in
      let both = sized_both j.low (names.cuts.items ++ j.high) in
      let more = sized_both names.cuts.items j.high in
      let gained_is : sized.gained u.cuts.items ≡ sized.gained (j.low ++ (names.cuts.items ++ j.high)) = ap sized.gained j.cuts_are in
      let lost_is : sized.lost u.cuts.items ≡ sized.lost (j.low ++ (names.cuts.items ++ j.high)) = ap sized.lost j.cuts_are in
      let l = brings_both halves.low halves.high in
      let within = lost_low 0 f.len u.cuts.items (file_asc f sound names stand f.others end high units u asc j) in
      omega (
        arith,
        sum,
        within,
        gained_is,
        lost_is,
        both.0,
        both.1,
        more.0,
        more.1,
        hl.0,
        hl.1,
        hh.0,
        hh.1,
        ap brings sides.0,
        ap takes sides.0,
        ap brings sides.1,
        ap takes sides.1,
        l.0,
        l.1,
        units_sum,
        fs.grown,
        stand.sum,
        at_is,
        next_is,
        len_is,
        known.size,
        inner_long a.children a.left,
        inner_long (children_after a c) a.left,
      )

  -- ---- with the pad and the names

  module _ (n : ℕ) (n_is : n ≡ length (inner (children_after (avi_of b) c) (avi_of b).left)) (stays : Bool) (stays_is : stays ≡ keeps_pad b f n) where
    pad_told : new_pad f.size n (avi_of b).pad (behind (avi_of b)) ≡ pad_after (avi_of b) c
    pad_told = ap (λ (q : ℕ). new_pad q n a.pad (behind a)) known.size ∙ ap (λ (q : ℕ). new_pad (length (inner a.children a.left)) q a.pad (behind a)) n_is

    pub pads_are : map (cut_in b) (pads f n stays) ≡ pad_cut (8 + length (inner (avi_of b).children (avi_of b).left)) (avi_of b).pad (pad_after (avi_of b) c)
    pads_are = ap (λ (t : Bool). map (cut_in b) (pads f n t)) stays_is ∙ go (keeps_pad b f n) refl ∙ ap (λ (w : List ℕ). pad_cut (8 + length (inner a.children a.left)) a.pad w) pad_told
      where
        go : (t : Bool) → keeps_pad b f n ≡ t → map (cut_in b) (pads f n t) ≡ cond t [] (record { at = 8 + length (inner a.children a.left); len = length a.pad; bytes = new_pad f.size n a.pad (behind a) } ∷ [])
        go true e = refl
        go false e =
            let zeros = new_zeros b bytes f known n (λ same. by same) in
            ap (λ (w : List ℕ). record { at = 8 + f.size; len = pad_now f; bytes = w } ∷ []) (append-nil (cond (eqb (form.pad_after f n) 1) (0 ∷ []) []) ∙ sym zeros)
            ∙ ap (λ (q : ℕ). record { at = 8 + q; len = pad_now f; bytes = new_pad f.size n a.pad (behind a) } ∷ []) known.size
            ∙ ap (λ (q : ℕ). record { at = 8 + length (inner a.children a.left); len = q; bytes = new_pad f.size n a.pad (behind a) } ∷ []) (sym (pad_is b bytes f known))
          where
            by : n ≡ f.size → ⊥
            by same =
                let is : new_pad f.size n a.pad (behind a) ≡ a.pad = cond-true (eqb f.size n) a.pad (cond (eqb (Rattle.std.proofs.Common.◌%◌ n 2) 1 && Rattle.std.specs.Prelude.not (Rattle.container_model.specs.Items.is_nil (behind a))) (0 ∷ []) []) (eq-eqb f.size n (sym same)) in
                let yes : keeps_pad b f n ≡ true = ap (bytes_eq a.pad) is ∙ bytes_refl a.pad in
                absurd cc

    pub cuts_told : map (cut_in b) (u.cuts.items ++ pads f n stays) ≡ put_cuts (name_needed (avi_of b) c.names) (old_list_cuts (avi_of b) c)
    cuts_told =
        let N = map (cut_in b) names.cuts.items in
        let P = pad_cut (8 + length (inner a.children a.left)) a.pad (pad_after a c) in
        let between : put_cuts N (halves.low ++ (halves.high ++ P)) ≡ halves.low ++ (N ++ (halves.high ++ P))
        = put_between from names.next N halves.low (halves.high ++ P) (subst (λ (q : ℕ). Ascend (q + 1) N names.next) at_is (ascend_in (names.at + 1) names.next names.cuts.items b stand.ascend)) halves.low_before high_first in
        map-append (cut_in b) u.cuts.items (pads f n stays) ∙ ap (λ (cs : List Cut). map (cut_in b) u.cuts.items ++ cs) pads_are
        ∙ ap (λ (ks : List CutAt). map (cut_in b) ks ++ P) j.cuts_are
        ∙ ap (λ (cs : List Cut). cs ++ P) (map-append (cut_in b) j.low (names.cuts.items ++ j.high) ∙ ap (λ (cs : List Cut). map (cut_in b) j.low ++ cs) (map-append (cut_in b) names.cuts.items j.high))
        ∙ ap (λ (cs : List Cut). (cs ++ (N ++ map (cut_in b) j.high)) ++ P) sides.0 ∙ ap (λ (cs : List Cut). (halves.low ++ (N ++ cs)) ++ P) sides.1
        ∙ append_assoc halves.low (N ++ halves.high) P ∙ ap (λ (cs : List Cut). halves.low ++ cs) (append_assoc N halves.high P)
        ∙ sym between
        ∙ ap (put_cuts N) (sym (append_assoc halves.low halves.high P) ∙ sym old_lists)
        ∙ ap (λ (cs : List Cut). put_cuts cs (old_list_cuts a c)) are.cuts_are
      where
        high_first : Rattle.avi_plan.proofs.Refined.Behind names.next (halves.high ++ pad_cut (8 + length (inner (avi_of b).children (avi_of b).left)) (avi_of b).pad (pad_after (avi_of b) c))
        high_first = go halves.high halves.high_new halves.slid (bytes_eq a.pad (pad_after a c))
          where
            go : (cs ds : List Cut) → Slid (from + x) (from + y) cs ds → (t : Bool) → Rattle.avi_plan.proofs.Refined.Behind names.next (cs ++ cond t [] (record { at = 8 + length (inner a.children a.left); len = length a.pad; bytes = pad_after a c } ∷ []))
            go [] ds h true = tt
            go [] ds h false = omega (arith, next_is, front_small, inner_long a.children a.left)
            go (c ∷ cs) [] h t = absurd h
            go (c ∷ cs) (d ∷ ds) h t = omega (arith, next_is, h.0)

    pub cuts_drop : Drops b (name_cuts (avi_of b) c.names) (name_needed (avi_of b) c.names) → Drops b (joined_cuts (avi_of b) c) (map (cut_in b) (u.cuts.items ++ pads f n stays))
    cuts_drop drop = subst (Drops b (joined_cuts a c)) (sym cuts_told) (puts_drop b 0 (length b) (name_cuts a c.names) (name_needed a c.names) (old_list_cuts a c) (joined_ascend b bytes s c) drop)

  pub fits_told : u.fits ≡ (names_fit (avi_of b) c.names && lists_fit (avi_of b) c)
  fits_told =
      j.fits ∙ ap (λ (t : Bool). t && units.fits) are.fits
      ∙ ap (λ (t : Bool). names_fit a c.names && t) (ap (λ (o : Outcome). o.fits) units_are ∙ halves.fits ∙ ap (λ (o : Outcome). o.fits) model_is)
