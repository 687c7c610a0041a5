-- Where an edit of fields and names has room, its patches make the new file in place.
use Rattle.std.proofs.Common.{◌≡◌, ℕ, ◌+◌, ◌-◌, ◌%◌, ◌^◌, ◌<◌, ◌≤◌, Bool, true, false, cond, eqb, List, [], ◌∷◌, ◌++◌, length, take, refl, sym, ap, subst, ◌∙◌, append_assoc, arith, inl, inr}
use Rattle.std.specs.Prelude.{◌⊎◌, ◌&&◌, not, codes}
use Rattle.std.specs.Int.{w32, to_le_bytes}
use Rattle.std.specs.List.{flat_map, list_all, AllByRecursion}
use Rattle.std.proofs.lemmas.Bool.{cases_lt, cond-true, eq-eqb}
use Rattle.std.proofs.lemmas.List.{append-nil, length-append, take_at}
use Rattle.me_bytes.specs.Bytes.{IsBytes}
use Rattle.part_tree.specs.declared.plan.Patch.{Patch}
use Rattle.part_tree.specs.Order.{SoundPatches}
use Rattle.part_tree.specs.Patches.{InOrder, Touches, all_bytes, patched}
use Rattle.part_tree.specs.Patches.{laid as over}
use Rattle.container_model.specs.Chunk.{riff, Chunk, spell, spell_all}
use Rattle.container_model.specs.Items.{is_nil}
use Rattle.container_model.specs.Splice.{shift}
use Rattle.container_model.specs.Stood.{Stood, bare, stood, only}
use Rattle.container_model.specs.Units.{Cell, kept, was, lacks_pad, Piece, is_empty, kept_next, shut, units, cuts, lay, old_bytes, Fill}
use Rattle.container_model.proofs.Copied.{stood-append}
use Rattle.container_model.proofs.Goes.{Block}
use Rattle.container_model.proofs.Places.{old_length}
use Rattle.container_model.proofs.Units.{BringsPad, spell_all-append, units_bring, units_old}
use Rattle.carrier_model.specs.Info.{is_padding, list_run, riff_fill}
use Rattle.carrier_model.specs.RiffForm.{new_pad, pad_cut, size_patch}
use Rattle.carrier_model.specs.Room.{unit_patches}
use Rattle.carrier_model.proofs.Fitted.{AllFit, LastOnly, last_units, same_gained}
use Rattle.carrier_model.proofs.Patches.{patched-append, touches_behind}
use Rattle.carrier_model.proofs.RiffForm.{none_is}
use Rattle.carrier_model.proofs.Room.{riff_fits}
use Rattle.opendml_index.specs.Index.{move}
use Rattle.avi_model.specs.After.{Changes, children_after, goes, joined, joined_file, list_cuts, pad_after}
use Rattle.avi_model.specs.Avi.{Avi, avi_of, behind, essence, inner, is_movi, kids, others_at, spell_avi, top}
use Rattle.avi_model.specs.Index.{renumbered}
use Rattle.avi_model.specs.Named.{Names, Site, cell_of, ends_file, ends_list, hdrl_named, hdrl_site, is_hdrl, name_cuts, named, riff_of, sites_in}
use Rattle.avi_model.specs.NewFile.{new_cells}
use Rattle.avi_model.specs.RoomAfter.{hdrl_patches, lists_fit, names_fit, patches_of, put_patches, strl_fits}
use Rattle.avi_model.specs.Support.{Supported}
use Rattle.avi_model.proofs.Among.{Among, among_all, among_append, among_flat, among_only, stood_inside}
use Rattle.avi_model.proofs.Forms.{file_read}
use Rattle.avi_model.proofs.InPlace.{numbers_stay}
use Rattle.avi_model.proofs.JoinedGoes.{behind_block, children, joined_past}
use Rattle.avi_model.proofs.JoinedGrows.{pad_behind}
use Rattle.avi_model.proofs.JoinedSpliced.{avi_parts, head_bytes}
use Rattle.avi_model.proofs.Lays.{Exactly, Lastly, touches_before, units_exactly, units_lastly, weaker}
use Rattle.avi_model.proofs.Levels.{Ended, further_whole, others_range, top_heads, type_one}
use Rattle.avi_model.proofs.Lies.{body_end, kids_inside}
use Rattle.avi_model.proofs.NamesHdrl.{FirstHdrl, KeptAt, first_hdrl, hdrl_kept}
use Rattle.avi_model.proofs.NamesLay.{hdrl_exactly, hdrl_lastly, size_lies}
use Rattle.avi_model.proofs.Past.{children_length}
use Rattle.avi_model.proofs.Read.{others_place}
use Rattle.avi_model.proofs.Respelled.{list_type}
use Rattle.avi_model.proofs.Sound.{ended}
use Rattle.avi_model.proofs.Still.{gained_before}
use Rattle.avi_model.proofs.StreamsGo.{hdrl_block}
use Rattle.avi_model.proofs.Tables.{was_new}
use Rattle.avi_model.proofs.UnitsSplit.{Split, brings_left, brings_right, fit_left, kept_from, kept_long, kept_some, order_from, order_tail, patches_append, put_between, same_parts, units_split}
use Rattle.avi_model.proofs.Walk.{IsRiffHead}

both_are : (t u : Bool) → (t && u) ≡ true → (t ≡ true) × (u ≡ true)
both_are true true i = (refl, refl)
both_are true false i = absurd cc
both_are false u i = absurd cc

all_one : (e : Names) (xs : List Site) → list_all (strl_fits e) (xs ++ []) ≡ true → list_all (strl_fits e) xs ≡ true
all_one e xs h = ap (list_all (strl_fits e)) (sym (append-nil xs)) ∙ h

module _ (o : List ℕ) (bytes : IsBytes o) (s : Supported o) (e : Changes) (names : names_fit (avi_of o) e.names ≡ true) (lists : lists_fit (avi_of o) e ≡ true) where
  abbrev a : Avi
  a = avi_of o

  abbrev na : Avi
  na = named (avi_of o) e.names

  g : Ended (avi_of o)
  g = ended o bytes s

  -- ---- hdrl

  r : FirstHdrl e.names (ends_file (avi_of o)) 12 (avi_of o).children
  r = first_hdrl e.names (ends_file a) 12 12 a.children (children o bytes s e) s.some_hdrl

  abbrev from : ℕ
  from = 12 + length (spell_all r.front)

  abbrev site : Site
  site = record { at = from; ends = ends_file (avi_of o) && is_nil r.rest; stream = 0; chunk = r.hdrl }

  abbrev new : Chunk
  new = hdrl_named e.names (ends_file (avi_of o) && is_nil r.rest) r.hdrl

  abbrev x : List ℕ
  x = spell r.hdrl

  abbrev y : List ℕ
  y = spell new

  abbrev rest : List ℕ
  rest = spell_all r.rest

  -- the patches of the names
  abbrev ns : List Patch
  ns = flat_map (hdrl_patches e.names) (hdrl_site (avi_of o))

  ns_are : ns ≡ hdrl_patches e.names site
  ns_are = ap (flat_map (hdrl_patches e.names)) r.site ∙ append-nil (hdrl_patches e.names site)

  kids_fit : list_all (strl_fits e.names) (sites_in e.names site) ≡ true
  kids_fit = all_one e.names (sites_in e.names site) (ap (λ (ss : List Site). list_all (strl_fits e.names) (flat_map (sites_in e.names) ss)) (sym r.site) ∙ names)

  abbrev last : Bool
  last = site.ends && ends_list r.hdrl

  named_exactly : last ≡ false → Exactly from x y ns
  named_exactly n = subst (Exactly from x y) (sym ns_are) (hdrl_exactly e.names site r.plain r.opens.0 r.opens.1 kids_fit n)

  named_lastly : Lastly from x y ns
  named_lastly = subst (Lastly from x y) (sym ns_are) (go last refl)
    where
      go : (t : Bool) → (site.ends && ends_list r.hdrl) ≡ t → Lastly from x y (hdrl_patches e.names site)
      go false n = weaker from x y (hdrl_patches e.names site) (hdrl_exactly e.names site r.plain r.opens.0 r.opens.1 kids_fit n)
      go true t = hdrl_lastly e.names site r.plain r.opens.0 r.opens.1 kids_fit t

  -- where it ends the file nothing is behind it
  none_behind : last ≡ true → (ends_file (avi_of o) ≡ true) × (r.rest ≡ [])
  none_behind t =
      let p = both_are site.ends (ends_list r.hdrl) t in
      let q = both_are (ends_file a) (is_nil r.rest) p.0 in
      (q.0, nil r.rest q.1)
    where
      nil : (cs : List Chunk) → is_nil cs ≡ true → cs ≡ []
      nil [] i = refl
      nil (c ∷ cs) i = absurd cc

  -- nor behind the form's chunks where the last slot ends the file
  form_ends : ends_file (avi_of o) ≡ true → ((avi_of o).left ≡ []) × ((avi_of o).pad ≡ []) × (behind (avi_of o) ≡ [])
  form_ends t =
      let p = both_are (is_nil a.left) (is_nil a.pad && is_nil (behind a)) t in
      let q = both_are (is_nil a.pad) (is_nil (behind a)) p.1 in
      (none_is a.left p.0, none_is a.pad q.0, none_is (behind a) q.1)

  -- ---- the units of the lists of fields

  abbrev fill : Fill
  fill = riff_fill (ends_file (avi_of o))

  abbrev xs : List Cell
  xs = new_cells (named (avi_of o) e.names) e.infos

  abbrev ps : List Piece
  ps = units shut (new_cells (named (avi_of o) e.names) e.infos)

  typed : is_hdrl new ≡ true
  typed = list_type (codes "hdrl") r.hdrl (Rattle.avi_model.proofs.Children.kids_of e.names (ends_file a && is_nil r.rest) r.hdrl) r.opens.0 ∙ r.typed

  k : KeptAt new (length (spell_all r.front)) xs
  k = subst (λ (ks : List Chunk). KeptAt new (length (spell_all r.front)) (Rattle.carrier_model.specs.Lists.edit_list_cells Rattle.carrier_model.specs.Info.info Rattle.carrier_model.specs.Info.info_items Rattle.avi_model.specs.NewFile.home e.infos (Rattle.std.proofs.Common.map cell_of ks))) (sym r.named_is) (hdrl_kept e.infos new typed r.front r.rest)

  sp : Split new shut k.front k.rest
  sp = units_split new k.rest shut k.front

  abbrev fs : List Piece
  fs = sp.front

  abbrev ks : List Piece
  ks = kept_next (lacks_pad new && not (is_empty k.rest)) new (λ t. units t k.rest)

  pieces_are : ps ≡ fs ++ ks
  pieces_are = ap (units shut) k.is ∙ sp.is

  brings : BringsPad (fs ++ ks)
  brings = subst BringsPad pieces_are (units_bring shut xs tt)

  only_last : LastOnly (fs ++ ks)
  only_last = subst LastOnly pieces_are (last_units shut xs)

  fits : AllFit fill (ends_file (avi_of o)) (fs ++ ks)
  fits = subst (AllFit fill (ends_file a)) pieces_are (riff_fits (ends_file a) ps lists)

  -- the chunks with their names, before hdrl, and behind it
  parts : (flat_map old_bytes fs ≡ spell_all r.front) × (y ++ spell_all (flat_map was k.rest) ≡ y ++ rest)
  parts =
      let all : spell_all (flat_map was k.front) ++ (y ++ spell_all (flat_map was k.rest)) ≡ spell_all r.front ++ (y ++ rest)
      = sym (spell_all-append (flat_map was k.front) (new ∷ flat_map was k.rest)) ∙ ap spell_all (sym (Rattle.std.proofs.lemmas.List.Concat.flat_map-append was k.front (kept new ∷ k.rest)) ∙ ap (flat_map was) (sym k.is) ∙ was_new na e.infos ∙ r.named_is) ∙ spell_all-append r.front (new ∷ r.rest) in
      let two = same_parts (spell_all (flat_map was k.front)) (spell_all r.front) (y ++ spell_all (flat_map was k.rest)) (y ++ rest) k.long all in
      (sp.old ∙ two.0, two.1)

  abbrev before : List ℕ
  before = spell_all r.front

  abbrev before_now : List ℕ
  before_now = spell_all (lay fill fs)

  abbrev now : List ℕ
  now = spell_all (lay fill ps)

  abbrev us : List Patch
  us = unit_patches fill 12 ps

  abbrev us1 : List Patch
  us1 = unit_patches fill 12 fs

  abbrev us2 : List Patch
  us2 = unit_patches fill (12 + old_length fs) ks

  us_are : us ≡ us1 ++ us2
  us_are = ap (unit_patches fill 12) pieces_are ∙ patches_append fill 12 fs ks

  first : Exactly 12 before before_now us1
  first =
      subst (λ (z : List ℕ). Exactly 12 z before_now us1) parts.0
      (units_exactly fill false 12 fs refl (brings_left fs ks brings) (fit_left fill (ends_file a) fs ks (kept_some (lacks_pad new && not (is_empty k.rest)) new k.rest) only_last fits))

  olds : flat_map old_bytes ps ≡ before ++ (y ++ rest)
  olds = units_old shut xs ∙ ap spell_all (was_new na e.infos ∙ r.named_is) ∙ spell_all-append r.front (new ∷ r.rest)

  all_lastly : Lastly 12 (before ++ (y ++ rest)) now (us1 ++ us2)
  all_lastly =
      subst (Lastly 12 (before ++ (y ++ rest)) now) us_are
      (subst (λ (z : List ℕ). Lastly 12 z now us) olds (units_lastly fill (ends_file a) 12 ps (last_units shut xs) (units_bring shut xs tt) (riff_fits (ends_file a) ps lists)))

  all_exactly : ends_file (avi_of o) ≡ false → Exactly 12 (before ++ (y ++ rest)) now (us1 ++ us2)
  all_exactly n =
      subst (Exactly 12 (before ++ (y ++ rest)) now) us_are
      (subst (λ (z : List ℕ). Exactly 12 z now us) olds (units_exactly fill (ends_file a) 12 ps n (units_bring shut xs tt) (riff_fits (ends_file a) ps lists)))

  -- hdrl stands in the new chunks behind what is before it
  now_long : length before + length y ≤ length now
  now_long =
      let one : now ≡ before_now ++ spell_all (lay fill ks) = ap (λ (z : List Piece). spell_all (lay fill z)) pieces_are ∙ ap spell_all (Rattle.std.proofs.lemmas.List.Concat.flat_map-append (Rattle.container_model.specs.Units.now_chunks fill) fs ks) ∙ spell_all-append (lay fill fs) (lay fill ks) in
      omega (arith, first.long, ap length one, length-append before_now (spell_all (lay fill ks)), kept_long fill (lacks_pad new && not (is_empty k.rest)) new k.rest (brings_right fs ks brings))

  -- ---- where no place moves

  chunks_are : spell_all (avi_of o).children ≡ before ++ (x ++ rest)
  chunks_are = ap spell_all r.is ∙ spell_all-append r.front (r.hdrl ∷ r.rest)

  named_are : spell_all (named (avi_of o) e.names).children ≡ before ++ (y ++ rest)
  named_are = ap spell_all r.named_is ∙ spell_all-append r.front (new ∷ r.rest)

  chunks_long : length (spell_all (avi_of o).children) ≡ length before + (length x + length rest)
  chunks_long = ap length chunks_are ∙ omega (arith, length-append before (x ++ rest), length-append x rest)

  named_long : length (spell_all (named (avi_of o) e.names).children) ≡ length before + (length y + length rest)
  named_long = ap length named_are ∙ omega (arith, length-append before (y ++ rest), length-append y rest)

  no_end : ends_file (avi_of o) ≡ false → last ≡ false
  no_end n = ap (λ (t : Bool). (t && is_nil r.rest) && ends_list r.hdrl) n

  -- the form keeps its size and its pad, unless the last slot ends the file
  same_size : ends_file (avi_of o) ≡ false → length now ≡ length (spell_all (avi_of o).children)
  same_size n =
      let p = all_exactly n in
      let q = named_exactly (no_end n) in
      omega (arith, p.long, q.long, chunks_long, length-append before (y ++ rest), length-append y rest)

  same_inner : ends_file (avi_of o) ≡ false → length (inner (children_after (avi_of o) e) (avi_of o).left) ≡ length (inner (avi_of o).children (avi_of o).left)
  same_inner n = omega (arith, same_size n, length-append (spell_all (children_after a e)) a.left, length-append (spell_all a.children) a.left)

  same_pad : pad_after (avi_of o) e ≡ (avi_of o).pad
  same_pad = go (ends_file a) refl
    where
      none : (old n : ℕ) → new_pad old n [] [] ≡ []
      none old n = side (eqb old n) (eqb (n % 2) 1)
        where
          side : (t u : Bool) → cond {A = List ℕ} t [] (cond (u && false) (0 ∷ []) []) ≡ []
          side true u = refl
          side false true = refl
          side false false = refl

      go : (t : Bool) → ends_file a ≡ t → pad_after (avi_of o) e ≡ (avi_of o).pad
      go false n = cond-true (eqb (length (inner a.children a.left)) (length (inner (children_after a e) a.left))) a.pad _ (eq-eqb (length (inner a.children a.left)) (length (inner (children_after a e) a.left)) (sym (same_inner n)))
      go true t =
          let z = form_ends t in
          ap (λ (p : List ℕ). new_pad (length (inner a.children a.left)) (length (inner (children_after a e) a.left)) p (behind a)) z.1
          ∙ ap (λ (p : List ℕ). new_pad (length (inner a.children a.left)) (length (inner (children_after a e) a.left)) [] p) z.2
          ∙ none (length (inner a.children a.left)) (length (inner (children_after a e) a.left)) ∙ sym z.1

  -- a movi list stands before hdrl or behind it
  abbrev Beside : Stood → Type 0
  Beside m = (m.at + length (spell m.chunk) ≤ from) ⊎ ((from + length x ≤ m.at) × (0 < length r.rest))

  movi_beside : (m : Stood) → Among m (only is_movi (top (avi_of o))) → Beside m
  movi_beside m i =
      let z = among_only is_movi (top a) m i in
      let split : top a ≡ stood 12 r.front ++ stood from (r.hdrl ∷ r.rest) = ap (stood 12) r.is ∙ stood-append 12 r.front (r.hdrl ∷ r.rest) in
      go z.1 (among_append (stood 12 r.front) (stood from (r.hdrl ∷ r.rest)) m (subst (Among m) split z.0))
    where
      some : (cs : List Chunk) (at : ℕ) → Among m (stood at cs) → 0 < length cs
      some [] at i = absurd i
      some (c ∷ cs) at i = omega arith

      go : is_movi m.chunk ≡ true → Among m (stood 12 r.front) ⊎ Among m (stood from (r.hdrl ∷ r.rest)) → Beside m
      go t (inl j) = inl (let q = stood_inside 12 r.front m j in omega (arith, q.1))
      go t (inr (inl j)) =
          let head : Stood = record { at = from; chunk = bare r.hdrl } in
          let movi : is_movi head.chunk ≡ true = ap (λ (q : Stood). is_movi q.chunk) j ∙ t in
          absurd (type_one (codes "hdrl") (codes "movi") head refl r.typed movi)
      go t (inr (inr j)) = let q = stood_inside (from + length x) r.rest m j in inr (q.0, some r.rest (from + length x) j)

  -- behind something hdrl keeps its length
  rest_exactly : 0 < length r.rest → last ≡ false
  rest_exactly some = go last refl
    where
      go : (t : Bool) → last ≡ t → t ≡ false
      go false h = refl
      go true h = absurd (omega (arith, some, ap length (none_behind h).1))

  block : Block from from (from + length x) (from + length y) (name_cuts (avi_of o) e.names)
  block =
      let b = hdrl_block e.names (ends_file a && is_nil r.rest) r.hdrl r.plain r.opens.0 r.opens.1 from from in
      subst (Block from from (from + length x) (from + length y)) (sym (ap (flat_map (Rattle.avi_model.specs.Named.hdrl_cuts e.names)) r.site ∙ append-nil (Rattle.avi_model.specs.Named.hdrl_cuts e.names site))) b

  before_names : (q : ℕ) → q < from → shift (name_cuts (avi_of o) e.names) q ≡ q
  before_names q lt = let z = none (name_cuts a e.names) from (omega (arith, lt)) block.ascend in omega (arith, z.0, z.1)
    where
      none : (cs : List Rattle.container_model.specs.Splice.Cut) (low : ℕ) → q < low → Rattle.container_model.specs.Splice.Ascend low cs (from + length x) → (Rattle.container_model.specs.Splice.gained cs q ≡ 0) × (Rattle.container_model.specs.Splice.lost cs q ≡ 0)
      none [] low l h = (refl, refl)
      none (c ∷ cs) low l h = Rattle.carrier_model.proofs.Fitted.cut_open c cs q (omega (arith, l, h.0))

  behind_names : (q : ℕ) → from + length x ≤ q → last ≡ false → shift (name_cuts (avi_of o) e.names) q ≡ q
  behind_names q le n = let z = behind_block from from (from + length x) (from + length y) q (name_cuts a e.names) block le in omega (arith, z.1, (named_exactly n).long)

  -- no place of a chunk of the form with other names moves
  in_lists : (q : ℕ) → q < 12 + length (spell_all (named (avi_of o) e.names).children) → shift (list_cuts (avi_of o) e) q ≡ q
  in_lists q lt =
      let low : q < 12 + old_length ps = omega (arith, lt, children_length na e.infos) in
      let same = same_gained fill (ends_file a) 12 ps q (last_units shut xs) (riff_fits (ends_file a) ps lists) (λ t. low) in
      let m = gained_before (cuts fill 12 ps) (pad_cut (8 + length (inner na.children na.left)) a.pad (pad_after a e)) q (pad_behind o bytes s e q low) in
      omega (arith, same, m.0, m.1)

  stays : (m : Stood) → Among m (essence (avi_of o)) → (q : ℕ) → m.at + 8 ≤ q → q < m.at + 8 + length m.chunk.body → goes (avi_of o) e q ≡ q
  stays m i q low high = go (among_append (only is_movi (top a)) (flat_map (λ x. only is_movi (kids x)) (others_at a)) m i)
    where
      there : shift (name_cuts (avi_of o) e.names) q ≡ q → q < 12 + length (spell_all (named (avi_of o) e.names).children) → goes (avi_of o) e q ≡ q
      there same lt = ap (shift (list_cuts a e)) same ∙ in_lists q lt

      top_stays : Among m (only is_movi (top (avi_of o))) → Beside m → goes (avi_of o) e q ≡ q
      top_stays j (inl le) =
          let me = body_end m (among_all IsRiffHead (top a) (top_heads a g) m (among_only is_movi (top a) m j).0) in
          there (before_names q (omega (arith, le, me, high))) (omega (arith, le, me, high, named_long))
      top_stays j (inr le) =
          let z = (among_only is_movi (top a) m j).0 in
          let me = body_end m (among_all IsRiffHead (top a) (top_heads a g) m z) in
          let inside = stood_inside 12 a.children m z in
          let n = rest_exactly le.1 in
          there (behind_names q (omega (arith, le.0, low)) n) (omega (arith, inside.1, me, high, named_long, chunks_long, (named_exactly n).long))

      go : Among m (only is_movi (top (avi_of o))) ⊎ Among m (flat_map (λ x. only is_movi (kids x)) (others_at (avi_of o))) → goes (avi_of o) e q ≡ q
      go (inl j) = top_stays j (movi_beside m j)
      go (inr j) =
          let f = among_flat (λ x. only is_movi (kids x)) (others_at a) m j in
          let z = among_only is_movi (kids f.from) m f.in_it in
          let w = further_whole a g f.from f.from_among in
          let inside = kids_inside f.from w.bytes w.long m z.0 in
          let range = others_range a g f.from f.from_among in
          let some : 0 < length (behind a) = omega (arith, inside.0, inside.1, range.0, range.1, low, high, body_end f.from w.head, body_end m (among_all IsRiffHead (kids f.from) (Rattle.avi_model.proofs.Lies.kids_heads f.from) m z.0)) in
          far some (omega (arith, inside.0, range.0, low)) (ends_file a) refl
        where
          far : 0 < length (behind (avi_of o)) → others_place (avi_of o) ≤ q → (t : Bool) → ends_file (avi_of o) ≡ t → goes (avi_of o) e q ≡ q
          far some le true t = absurd (omega (arith, some, ap length (form_ends t).2))
          far some le false n =
              let p = joined_past o bytes s e q le in
              omega (arith, p.1, same_inner n, ap length same_pad, length-append (inner a.children a.left) a.pad, length-append (inner (children_after a e) a.left) (pad_after a e))

  -- Every number stays as it is.
  pub joined_stays : renumbered (move (goes (avi_of o) e)) o ≡ o
  joined_stays = numbers_stay o bytes s (goes a e) stays

  file_same : joined_file o e ≡ spell_avi (joined (avi_of o) e)
  unfolding joined_file
  file_same = ap (λ (b : List ℕ). spell_avi (joined (avi_of b) e)) joined_stays

  -- ---- the patches make the new file

  abbrev old_size : ℕ
  old_size = length (inner (avi_of o).children (avi_of o).left)

  abbrev new_size : ℕ
  new_size = length (inner (children_after (avi_of o) e) (avi_of o).left)

  abbrev ss : List Patch
  ss = size_patch riff old_size new_size

  abbrev tail : List ℕ
  tail = (avi_of o).left ++ ((avi_of o).pad ++ behind (avi_of o))

  abbrev head : List ℕ
  head = head_bytes new_size

  size_is : Exactly 4 (to_le_bytes w32 old_size) (to_le_bytes w32 new_size) ss
  size_is = size_lies 4 old_size new_size

  old_is : o ≡ head_bytes old_size ++ (before ++ (x ++ (rest ++ tail)))
  old_is =
      (file_read o bytes s).spelled ∙ avi_parts a ∙ ap (λ (z : List ℕ). head_bytes old_size ++ (z ++ tail)) chunks_are ∙ ap (λ (z : List ℕ). head_bytes old_size ++ z) (regroup before x rest tail)
    where
      regroup : (b h c t : List ℕ) → (b ++ (h ++ c)) ++ t ≡ b ++ (h ++ (c ++ t))
      regroup b h c t = simp append_assoc

  new_is : joined_file o e ≡ head ++ (now ++ tail)
  new_is = file_same ∙ avi_parts (joined a e) ∙ ap (λ (p : List ℕ). head ++ (now ++ (a.left ++ (p ++ behind a)))) same_pad

  -- by place: those before hdrl, the names, and those behind
  abbrev all : List Patch
  all = us1 ++ (ns ++ us2)

  place : 12 + length before ≡ from
  place = refl

  order_first : InOrder from 12 us1
  order_first = subst (InOrder from 12) (append-nil us1) (first.order from 12 [] (omega arith) (omega (arith, first.long)) tt)

  order_names : InOrder (from + length y) from ns
  order_names = subst (InOrder (from + length y) from) (append-nil ns) (named_lastly.order (from + length y) from [] (omega arith) (omega arith) tt)

  behind_hdrl : AllByRecursion (λ (p : Patch). from + length y ≤ p.at) us2
  behind_hdrl =
      let at : 12 + old_length fs ≡ from = omega (arith, ap length parts.0) in
      subst (λ (q : ℕ). AllByRecursion (λ (p : Patch). from + length y ≤ p.at) (unit_patches fill q ks)) (sym at) (kept_from fill from (lacks_pad new && not (is_empty k.rest)) new k.rest)

  merged_is : put_patches ns us ≡ all
  merged_is = ap (put_patches ns) us_are ∙ put_between 12 from (from + length y) us1 ns us2 order_first order_names behind_hdrl

  -- what the units behind hdrl make
  units_then : (w : List ℕ) → (more : List ℕ) × (patched us2 ((head ++ before_now) ++ (y ++ (rest ++ w))) ≡ (head ++ now) ++ more)
  units_then w =
      let m = all_lastly.makes head w refl in
      let one = first.makes head ((y ++ rest) ++ w) refl in (
        m.0,
        ap (patched us2) (regroup head before_now y rest w ∙ sym one ∙ ap (λ (z : List ℕ). patched us1 (head ++ z)) (sym (append_assoc before (y ++ rest) w))) ∙ sym (patched-append us1 us2 (head ++ ((before ++ (y ++ rest)) ++ w))) ∙ m.1,
      )
    where
      regroup : (h b c d w : List ℕ) → (h ++ b) ++ (c ++ (d ++ w)) ≡ h ++ (b ++ ((c ++ d) ++ w))
      regroup h b c d w = simp append_assoc

  units_exact : ends_file (avi_of o) ≡ false → (w : List ℕ) → patched us2 ((head ++ before_now) ++ (y ++ (rest ++ w))) ≡ head ++ (now ++ w)
  units_exact n w =
      let m = (all_exactly n).makes head w refl in
      let one = first.makes head ((y ++ rest) ++ w) refl in
      ap (patched us2) (regroup head before_now y rest w ∙ sym one ∙ ap (λ (z : List ℕ). patched us1 (head ++ z)) (sym (append_assoc before (y ++ rest) w))) ∙ sym (patched-append us1 us2 (head ++ ((before ++ (y ++ rest)) ++ w))) ∙ m
    where
      regroup : (h b c d w : List ℕ) → (h ++ b) ++ (c ++ (d ++ w)) ≡ h ++ (b ++ ((c ++ d) ++ w))
      regroup h b c d w = simp append_assoc

  -- the size, and the units before hdrl
  first_made : patched us1 (patched ss o) ≡ (head ++ before_now) ++ (x ++ (rest ++ tail))
  first_made =
      let z = before ++ (x ++ (rest ++ tail)) in
      ap (λ (w : List ℕ). patched us1 (patched ss w)) old_is ∙ ap (patched us1) (size_is.makes (codes "RIFF") (codes "AVI " ++ z) refl)
      ∙ first.makes head (x ++ (rest ++ tail)) refl ∙ sym (append_assoc head before_now (x ++ (rest ++ tail)))

  made : (more : List ℕ) × (patched (ss ++ all) o ≡ (head ++ (now ++ tail)) ++ more)
  made = go last refl
    where
      in_turn : patched (ss ++ all) o ≡ patched us2 (patched ns ((head ++ before_now) ++ (x ++ (rest ++ tail))))
      in_turn = patched-append ss all o ∙ patched-append us1 (ns ++ us2) (patched ss o) ∙ ap (patched (ns ++ us2)) first_made ∙ patched-append ns us2 ((head ++ before_now) ++ (x ++ (rest ++ tail)))

      front_long : length (head ++ before_now) ≡ from
      front_long = omega (arith, first.long, length-append head before_now)

      -- where nothing is behind the chunks
      ended : ends_file (avi_of o) ≡ true → tail ≡ []
      ended t = let z = form_ends t in ap (λ (l : List ℕ). l ++ (a.pad ++ behind a)) z.0 ∙ ap (λ (l : List ℕ). l ++ behind a) z.1 ∙ z.2

      whole : ends_file (avi_of o) ≡ true → (m : List ℕ) → (head ++ now) ++ m ≡ (head ++ (now ++ tail)) ++ m
      whole t m = ap (λ (z : List ℕ). (head ++ z) ++ m) (sym (append-nil now) ∙ ap (λ (z : List ℕ). now ++ z) (sym (ended t)))

      exact : last ≡ false → (t : Bool) → ends_file (avi_of o) ≡ t → (more : List ℕ) × (patched (ss ++ all) o ≡ (head ++ (now ++ tail)) ++ more)
      exact n false f = ([], in_turn ∙ ap (patched us2) ((named_exactly n).makes (head ++ before_now) (rest ++ tail) front_long) ∙ units_exact f tail ∙ sym (append-nil (head ++ (now ++ tail))))
      exact n true f = let m = units_then tail in (m.0, in_turn ∙ ap (patched us2) ((named_exactly n).makes (head ++ before_now) (rest ++ tail) front_long) ∙ m.1 ∙ whole f m.0)

      go : (t : Bool) → last ≡ t → (more : List ℕ) × (patched (ss ++ all) o ≡ (head ++ (now ++ tail)) ++ more)
      go false n = exact n (ends_file a) refl
      go true t =
          let none = none_behind t in
          let no_rest : rest ≡ [] = ap spell_all none.1 in
          let l = named_lastly.makes (head ++ before_now) (rest ++ tail) front_long in
          let m = units_then l.0 in (
            m.0,
            in_turn ∙ ap (patched us2) (l.1 ∙ append_assoc (head ++ before_now) y l.0 ∙ ap (λ (z : List ℕ). (head ++ before_now) ++ (y ++ (z ++ l.0))) (sym no_rest)) ∙ m.1 ∙ whole none.0 m.0,
          )

  patches_are : patches_of (avi_of o) e ≡ ss ++ all
  patches_are = ap (λ (z : List Patch). ss ++ z) merged_is

  pub joined_made : over (length (joined_file o e)) (patches_of (avi_of o) e) o ≡ joined_file o e
  joined_made =
      ap (λ (z : List Patch). over (length (joined_file o e)) z o) patches_are ∙ ap (take (length (joined_file o e))) (made.1 ∙ ap (λ (z : List ℕ). z ++ made.0) (sym new_is)) ∙ take_at (joined_file o e) made.0 (length (joined_file o e)) refl

  -- ---- they are in order

  new_long : length (joined_file o e) ≡ 12 + (length now + length tail)
  new_long = ap length new_is ∙ omega (arith, length-append head (now ++ tail), length-append now tail)

  old_long : length o ≡ 12 + (length before + (length x + (length rest + length tail)))
  old_long = ap length old_is ∙ omega (arith, length-append (head_bytes old_size) (before ++ (x ++ (rest ++ tail))), length-append before (x ++ (rest ++ tail)), length-append x (rest ++ tail), length-append rest tail)

  joined_order : InOrder (length (joined_file o e)) 0 (ss ++ all)
  joined_order =
      let n = length (joined_file o e) in
      let units : InOrder n 12 ((us1 ++ us2) ++ []) = all_lastly.order n 12 [] (omega arith) (omega (arith, new_long)) tt in
      let third : InOrder n (from + length y) us2 = order_from n 0 (from + length y) us2 behind_hdrl (order_tail n 12 us1 us2 (subst (InOrder n 12) (append-nil (us1 ++ us2)) units)) in
      let second : InOrder n from (ns ++ us2) = named_lastly.order n from us2 (omega arith) (omega (arith, new_long, now_long)) third in
      let back : 12 + length before_now ≡ from = omega (arith, first.long) in
      let one : InOrder n 8 all = first.order n 8 (ns ++ us2) (omega arith) (omega (arith, new_long, now_long, first.long)) (subst (λ (q : ℕ). InOrder n q (ns ++ us2)) (sym back) second) in
      size_is.order n 0 all (omega arith) (omega (arith, new_long)) one

  -- ---- and cover what the file gains

  spread : (q : ℕ) → Touches q (us1 ++ us2) → Touches q (ss ++ all)
  spread q h = touches_behind q ss all (go us1 h)
    where
      go : (vs : List Patch) → Touches q (vs ++ us2) → Touches q (vs ++ (ns ++ us2))
      go [] h = touches_behind q ns us2 h
      go (v ∷ vs) (inl h) = inl h
      go (v ∷ vs) (inr h) = inr (go vs h)

  joined_cover : (q : ℕ) → length o ≤ q → q < length (joined_file o e) → Touches q (ss ++ all)
  joined_cover q low high = go (ends_file a) refl
    where
      no_tail : ends_file (avi_of o) ≡ true → length tail ≡ 0
      no_tail t = let z = form_ends t in omega (arith, ap length z.0, ap length z.1, ap length z.2, length-append a.left (a.pad ++ behind a), length-append a.pad (behind a))

      units_cover : 12 + (length before + (length y + length rest)) ≤ q → length tail ≡ 0 → Touches q (ss ++ all)
      units_cover le zero = spread q (all_lastly.cover q (omega (arith, le, length-append before (y ++ rest), length-append y rest)) (omega (arith, high, new_long, zero)))

      by : (t : Bool) → last ≡ t → length tail ≡ 0 → Touches q (ss ++ all)
      by false n zero = units_cover (omega (arith, low, old_long, zero, (named_exactly n).long)) zero
      by true t zero = pick (cases_lt q (from + length y))
        where
          no_rest : length rest ≡ 0
          no_rest = ap (λ (cs : List Chunk). length (spell_all cs)) (none_behind t).1

          pick : (q < from + length y) ⊎ (from + length y ≤ q) → Touches q (ss ++ all)
          pick (inl lt) = touches_behind q ss all (touches_behind q us1 (ns ++ us2) (touches_before q ns us2 (named_lastly.cover q (omega (arith, low, old_long)) lt)))
          pick (inr le) = units_cover (omega (arith, le, no_rest)) zero

      go : (t : Bool) → ends_file a ≡ t → Touches q (ss ++ all)
      go false n = absurd (omega (arith, low, high, old_long, new_long, same_size n, chunks_long))
      go true t = by last refl (no_tail t)

  pub joined_sound : all_bytes (patches_of (avi_of o) e) ≤ 2 ^ 24 → SoundPatches (length o) (length (joined_file o e)) (patches_of (avi_of o) e)
  joined_sound few = record {
    in_order = subst (InOrder (length (joined_file o e)) 0) (sym patches_are) joined_order;
    few_bytes = few;
    cover = λ q low high. subst (Touches q) (sym patches_are) (joined_cover q low high);
  }
