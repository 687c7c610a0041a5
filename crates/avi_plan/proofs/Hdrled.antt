-- `hdrl` with other names, as a planner and as the model has it.
use Rattle.std.proofs.Common.{◌≡◌, ◌∙◌, ℕ, ◌+◌, ◌%◌, ◌≤◌, Bool, true, false, cond, eqb, List, [], ◌∷◌, ◌++◌, length, map, take, drop, min, refl, sym, ap, subst, arith, append-nil, length-append}
use Rattle.std.specs.Prelude.{◌&&◌}
use Rattle.std.specs.Int.{w32, to_le_bytes}
use Rattle.std.specs.List.{flat_map, list_all}
use Rattle.std.proofs.lemmas.Bool.{and_parts}
use Rattle.std.proofs.lemmas.List.{length-drop}
use Rattle.me_bytes.specs.Bytes.{IsBytes}
use Rattle.part_tree.specs.declared.names.Span.{Span}
use Rattle.part_tree.specs.declared.plan.Patch.{Patch}
use Rattle.container_model.specs.Chunk.{Chunk, PadStands, Pads, spell, spell_all}
use Rattle.container_model.specs.Items.{is_nil}
use Rattle.container_model.specs.Splice.{Cut}
use Rattle.container_model.specs.Stood.{Stood, bare, only, stood}
use Rattle.container_model.specs.Units.{lacks_pad}
use Rattle.container_model.proofs.Plain.{ArePlain, IsPlain}
use Rattle.container_model.proofs.Units.{spell_all-append}
use Rattle.carrier_model.specs.Info.{list_run}
use Rattle.carrier_model.specs.Room.{patch}
use Rattle.unit_plan.specs.Cuts.{SpansAscend, cut_in, patch_of}
use Rattle.unit_plan.specs.declared.cut.CutAt.{CutAt}
use Rattle.unit_plan.proofs.Spans.{lost_low}
use Rattle.avi_model.specs.Avi.{Avi, avi_of, behind, body_span, hdrls, inner, kids}
use Rattle.avi_model.specs.Named.{Names, Site, ends_file, ends_list, hdrl_named, hdrl_site, is_strl, kids_named, list_pad, sites_in}
use Rattle.avi_model.specs.RoomAfter.{hdrl_patches, strl_fits}
use Rattle.avi_model.specs.Support.{Supported}
use Rattle.avi_model.proofs.JoinedSpliced.{avi_parts, head_bytes}
use Rattle.avi_model.proofs.Levels.{Ended}
use Rattle.avi_model.proofs.NamesHdrl.{FirstHdrl, first_hdrl}
use Rattle.avi_model.proofs.NamesLay.{hdrl_pad}
use Rattle.avi_model.proofs.NamesSet.{supported_children}
use Rattle.avi_model.proofs.Respelled.{IsList, list_length, respelled_body, respelled_form, respelled_id}
use Rattle.avi_model.proofs.Sound.{ended}
use Rattle.avi_model.proofs.Stands.{is_file}
use Rattle.avi_model.proofs.Streams.{AreKids}
use Rattle.avi_plan.specs.Lists.{IsSoundList, keeps_pad, lacks_then, len_then, list_cuts, size_then}
use Rattle.avi_plan.specs.NamesAt.{name_needed, strl_needed}
use Rattle.avi_plan.specs.Streams.{AreSites, StreamsTold, TellsStreams, behind_type, named_among}
use Rattle.avi_plan.specs.declared.form.FormAt.{FormAt}
use Rattle.avi_plan.specs.declared.list.ListAt.{ListAt}
use Rattle.avi_plan.specs.declared.streams.StreamSpans.{StreamSpans}
use Rattle.avi_plan.proofs.Around.{IsListOf, around_is, around_patches, keeps_where, lacks_is, pad_long, spelled_long}
use Rattle.avi_plan.proofs.Grown.{grow, kids_grow, lose, told_grow, told_lose}
use Rattle.avi_plan.proofs.Sited.{StandAt, ends_split, first_part, hdrl_found, inside_stands, list_ends, named_sites, next_is, other_part, sites_are, stand_as, stand_end, strl_sites}

-- ---- hdrl

module _ (e : Names) (h : Site) (plain : IsPlain h.chunk) (is : IsList h.chunk) (kids_are : AreKids (list_run h.chunk).chunks) where
  abbrev kids_of : List Chunk
  kids_of = (list_run h.chunk).chunks

  abbrev left_of : List ℕ
  left_of = (list_run h.chunk).left

  abbrev last : Bool
  last = h.ends && ends_list h.chunk

  abbrev news : List Chunk
  news = kids_named e (h.ends && ends_list h.chunk) 0 (list_run h.chunk).chunks

  abbrev new : Chunk
  new = hdrl_named e h.ends h.chunk

  abbrev body : List ℕ
  body = take 4 h.chunk.body ++ (spell_all (kids_named e (h.ends && ends_list h.chunk) 0 (list_run h.chunk).chunks) ++ (list_run h.chunk).left)

  body_long : length h.chunk.body ≡ 4 + (length (spell_all (list_run h.chunk).chunks) + length (list_run h.chunk).left)
  body_long = omega (arith, is.long, ap length is.spelled, length-append (spell_all kids_of) left_of, length-drop 4 h.chunk.body)

  module _ (b : List ℕ) (l : ListAt) (sound : IsSoundList l) (of : IsListOf l h.at h.chunk) (inside : l.next ≤ length b) (found : StreamSpans) (told : StreamsTold b e (sites_in e h) found)
      (ascend : SpansAscend (l.at + 12) found.cuts.items (l.at + 8 + l.size)) where
    abbrev ks : List CutAt
    ks = found.cuts.items

    abbrev n : ℕ
    n = size_then l found.cuts.items

    pub size_is : size_then l found.cuts.items ≡ length (hdrl_named e h.ends h.chunk).body
    size_is =
        omega (
          arith,
          of.size_is,
          body_long,
          list_length h.chunk news is,
          lost_low (l.at + 12) (l.at + 8 + l.size) ks ascend,
          kids_grow e last 0 (h.at + 12) kids_of kids_are,
          told_grow b (l.at + 12) (l.at + 8 + l.size) ks (omega (arith, sound.whole, inside)) ascend,
          told_lose b ks,
          ap grow told.cuts_are,
          ap lose told.cuts_are,
        )

    body_same : size_then l found.cuts.items ≡ length body
    body_same = size_is ∙ ap length (respelled_body h.chunk body)

    keeps : found.fits ≡ true → keeps_pad l (size_then l found.cuts.items) ≡ true
    keeps f = keeps_where b l h.at h.chunk of body n body_same (hdrl_pad e h plain is kids_are (sym told.fits ∙ f))

    pub fit_is : (found.fits && keeps_pad l (size_then l found.cuts.items)) ≡ list_all (strl_fits e) (sites_in e h)
    fit_is = go found.fits refl ∙ told.fits
      where
        go : (t : Bool) → found.fits ≡ t → (t && keeps_pad l (size_then l found.cuts.items)) ≡ t
        go true f = keeps f
        go false f = refl

    pub cuts_are : map (cut_in b) (list_cuts l found.cuts.items) ≡ Rattle.avi_plan.specs.NamesAt.hdrl_needed e h
    cuts_are =
        let size : List Cut = cond (eqb (length h.chunk.body) (length new.body)) [] (record { at = h.at + 4; len = 4; bytes = to_le_bytes w32 (length new.body) } ∷ []) in
        around_is b l h.at h.chunk of body n body_same size_is ks ∙ ap (λ (x : List Cut). size ++ (x ++ list_pad h new)) told.cuts_are

    pub patches_are : (found.fits && keeps_pad l (size_then l found.cuts.items)) ≡ true → flat_map patch_of (list_cuts l found.cuts.items) ≡ hdrl_patches e h
    patches_are f =
        let p = and_parts found.fits (keeps_pad l n) f in
        let size : List Patch = cond (eqb (length h.chunk.body) (length new.body)) [] (patch (h.at + 4) (to_le_bytes w32 (length new.body))) in
        around_patches b l h.at h.chunk of body n body_same size_is p.1 ks ∙ ap (λ (x : List Patch). size ++ x) (told.patches p.0)

    pub lacks_it : lacks_pad (hdrl_named e h.ends h.chunk) ≡ lacks_then l (size_then l found.cuts.items)
    lacks_it = lacks_is b l h.at h.chunk of body n body_same (respelled_form h.chunk body ∙ plain.form_is) size_is

    pub len_is : length (spell (hdrl_named e h.ends h.chunk)) ≡ len_then l (size_then l found.cuts.items)
    len_is =
        omega (
          arith,
          spelled_long new (respelled_form h.chunk body ∙ plain.form_is) (ap length (respelled_id h.chunk body) ∙ plain.id_len),
          size_is,
          pad_long b l h.at h.chunk of body n body_same,
        )

-- ---- where it stands in a supported file

pads_behind : (front : List Chunk) (c : Chunk) (rest : List Chunk) (left : List ℕ) → Pads (front ++ c ∷ rest) left → PadStands c.form (length c.body) c.pad (spell_all rest ++ left)
pads_behind [] c rest left h = h.0
pads_behind (d ∷ front) c rest left h = pads_behind front c rest left h.1

module _ (b : List ℕ) (bytes : IsBytes b) (e : Names) (f : FormAt) (hdrl : Span) (streams : List Span) (tells : TellsStreams b f hdrl streams) where
  abbrev a : Avi
  a = avi_of b

  s : Supported b
  s = tells.form.supported

  g : Ended (avi_of b)
  g = ended b bytes s

  pub r : FirstHdrl e (ends_file (avi_of b)) 12 (avi_of b).children
  r = first_hdrl e (ends_file a) 12 12 a.children (supported_children b bytes s) s.some_hdrl

  abbrev pub site : Site
  site = record { at = 12 + length (spell_all r.front); ends = ends_file (avi_of b) && is_nil r.rest; stream = 0; chunk = r.hdrl }

  pub site_is : hdrl_site (avi_of b) ≡ site ∷ []
  site_is = r.site

  found_is : hdrls (avi_of b) ≡ record { at = site.at; chunk = bare r.hdrl } ∷ []
  found_is = hdrl_found (ends_file a) 12 a.children site r.site

  abbrev first_span : List Span → Span
  first_span [] = hdrl
  first_span (x ∷ xs) = x

  span_is : hdrl ≡ record { at = site.at + 8; len = length r.hdrl.body }
  span_is = ap first_span (tells.hdrl_is ∙ ap (map body_span) found_is)

  pub place_is : hdrl.at ≡ site.at + 8
  place_is = ap (λ (x : Span). x.at) span_is

  pub size_told : hdrl.len ≡ length r.hdrl.body
  size_told = ap (λ (x : Span). x.len) span_is

  children_long : length (spell_all (avi_of b).children) ≡ length (spell_all r.front) + (length (spell r.hdrl) + length (spell_all r.rest))
  children_long = ap length (ap spell_all r.is ∙ spell_all-append r.front (r.hdrl ∷ r.rest)) ∙ omega (arith, length-append (spell_all r.front) (spell r.hdrl ++ spell_all r.rest), length-append (spell r.hdrl) (spell_all r.rest))

  form_long : 8 + f.size ≡ 12 + length (spell_all (avi_of b).children) + length (avi_of b).left
  form_long = omega (arith, tells.form.size, length-append (spell_all a.children) a.left)

  pub next_told : site.at + length (spell r.hdrl) ≡ min (8 + f.size) (hdrl.at + hdrl.len + hdrl.len % 2)
  next_told =
      let stands = pads_behind r.front r.hdrl r.rest a.left (subst (λ (cs : List Chunk). Pads cs a.left) r.is g.readable.pads) in
      let here = next_is (8 + f.size) site.at r.hdrl (spell_all r.rest ++ a.left) r.plain stands (omega (arith, form_long, children_long, length-append (spell_all r.rest) a.left)) in
      here ∙ ap (λ (k : ℕ). min (8 + f.size) k) (omega (arith, place_is, size_told))

  -- it stands there
  file_is : b ≡ head_bytes (length (inner (avi_of b).children (avi_of b).left)) ++ (spell_all (avi_of b).children ++ ((avi_of b).left ++ ((avi_of b).pad ++ behind (avi_of b))))
  file_is = is_file b bytes s ∙ avi_parts a

  pub hdrl_stands : StandAt b site.at (spell r.hdrl)
  hdrl_stands =
      let head = head_bytes (length (inner a.children a.left)) in
      let more = a.left ++ (a.pad ++ behind a) in
      let all : StandAt b 12 (spell_all a.children) = record { front = head; rest = more; is = file_is; long = refl } in
      let parts : spell_all a.children ≡ spell_all r.front ++ (spell r.hdrl ++ spell_all r.rest) = ap spell_all r.is ∙ spell_all-append r.front (r.hdrl ∷ r.rest) in
      first_part b site.at (spell r.hdrl) (spell_all r.rest) (other_part b 12 (spell_all r.front) (spell r.hdrl ++ spell_all r.rest) (stand_as b 12 12 (spell_all a.children) (spell_all r.front ++ (spell r.hdrl ++ spell_all r.rest)) refl parts all))

  -- whether it ends the file
  file_long : length b ≡ 12 + (length (spell_all (avi_of b).children) + (length (avi_of b).left + (length (avi_of b).pad + length (behind (avi_of b)))))
  file_long =
      ap length file_is
      ∙ omega (arith, length-append (head_bytes (length (inner a.children a.left))) (spell_all a.children ++ (a.left ++ (a.pad ++ behind a))), length-append (spell_all a.children) (a.left ++ (a.pad ++ behind a)), length-append a.left (a.pad ++ behind a), length-append a.pad (behind a))

  nil_is : (x : List ℕ) (p q len : ℕ) (t : Bool) → t ≡ eqb q len → q ≤ len → q ≡ p + length x → (is_nil x && t) ≡ eqb p len
  nil_is [] p q len t e high place = e ∙ ap (λ (k : ℕ). eqb k len) (omega (arith, place))
  nil_is (y ∷ x) p q len t e high place = sym (Rattle.std.proofs.lemmas.Bool.ne_eqb p len (λ z. omega (arith, z, place, high)))

  form_ends : ends_file (avi_of b) ≡ eqb (12 + length (spell_all (avi_of b).children)) (length b)
  form_ends =
      let p0 = 12 + length (spell_all a.children) in
      let p1 = p0 + length a.left in
      let p2 = p1 + length a.pad in
      let p3 = p2 + length (behind a) in
      let last_one : is_nil (behind a) ≡ eqb p2 (length b) = go (behind a) p2 p3 (omega (arith, file_long)) refl in
      nil_is a.left p0 p1 (length b) (is_nil a.pad && is_nil (behind a)) (nil_is a.pad p1 p2 (length b) (is_nil (behind a)) last_one (omega (arith, file_long)) refl) (omega (arith, file_long)) refl
    where
      go : (x : List ℕ) (p q : ℕ) → q ≡ length b → q ≡ p + length x → is_nil x ≡ eqb p (length b)
      go [] p q e place = sym (Rattle.std.proofs.lemmas.Bool.eq-eqb p (length b) (omega (arith, e, place)))
      go (y ∷ x) p q e place = sym (Rattle.std.proofs.lemmas.Bool.ne_eqb p (length b) (λ z. omega (arith, z, e, place)))

  hdrl_ends : site.ends ≡ eqb (site.at + length (spell r.hdrl)) (length b)
  hdrl_ends = go r.rest refl
    where
      whole : 12 + length (spell_all (avi_of b).children) ≤ length b
      whole = omega (arith, file_long)

      plain_rest : (front : List Chunk) (c : Chunk) (rest : List Chunk) → ArePlain (front ++ c ∷ rest) → ArePlain rest
      plain_rest [] c rest h = h.1
      plain_rest (d ∷ front) c rest h = plain_rest front c rest h.1

      rest_plain : ArePlain r.rest
      rest_plain = plain_rest r.front r.hdrl r.rest (subst ArePlain r.is g.readable.plain_chunks)

      go : (cs : List Chunk) → r.rest ≡ cs → (ends_file (avi_of b) && is_nil cs) ≡ eqb (site.at + length (spell r.hdrl)) (length b)
      go [] q = ends_split (ends_file a) true (site.at + length (spell r.hdrl)) (12 + length (spell_all a.children)) (length b) form_ends whole (omega (arith, children_long)) (λ z. omega (arith, children_long, ap (λ (x : List Chunk). length (spell_all x)) q)) (λ z. absurd cc)
      go (c ∷ cs) q =
          let one = (subst ArePlain q rest_plain).0 in
          let some : 8 ≤ length (spell_all r.rest) = omega (arith, ap (λ (x : List Chunk). length (spell_all x)) q, length-append (spell c) (spell_all cs), spelled_long c one.form_is one.id_len) in
          ends_split (ends_file a) false (site.at + length (spell r.hdrl)) (12 + length (spell_all a.children)) (length b) form_ends whole (omega (arith, children_long)) (λ z. absurd cc) (λ z. omega (arith, children_long, some))

  -- the lists of the streams in it
  streams_told : streams ≡ map behind_type (only is_strl (stood (site.at + 12) (list_run r.hdrl).chunks))
  streams_told =
      tells.streams_are ∙ ap (λ (xs : List Stood). map behind_type (only is_strl (flat_map kids xs))) found_is
      ∙ ap (λ (xs : List Stood). map behind_type (only is_strl xs)) (append-nil (kids (record { at = site.at; chunk = bare r.hdrl })))

  pub sites_told : AreSites b (hdrl.at + hdrl.len) f.len 0 (hdrl.at + 4) streams (strl_sites (site.ends && ends_list r.hdrl) 0 (site.at + 12) (list_run r.hdrl).chunks)
  sites_told =
      let cs = (list_run r.hdrl).chunks in
      let left = (list_run r.hdrl).left in
      let list = r.opens.0 in
      let long : length r.hdrl.body ≡ 4 + (length (spell_all cs) + length left) = omega (arith, list.long, ap length list.spelled, length-append (spell_all cs) left, length-drop 4 r.hdrl.body) in
      let low : hdrl.at + 4 ≤ site.at + 12 = omega (arith, place_is) in
      let end : site.at + 12 + length (spell_all cs) + length left ≡ hdrl.at + hdrl.len = omega (arith, place_is, size_told, long) in
      let stands : StandAt b (site.at + 12) (spell_all cs)
      = first_part b (site.at + 12) (spell_all cs) left (stand_as b (site.at + 12) (site.at + 12) (drop 4 r.hdrl.body) (spell_all cs ++ left) refl (sym list.spelled) (inside_stands b site.at r.hdrl r.plain list hdrl_stands)) in
      let same : length b ≡ f.len = sym tells.form.len in
      let ends = list_ends site.ends site.at (length b) r.hdrl r.plain list hdrl_ends (stand_end b site.at (spell r.hdrl) hdrl_stands) in
      subst (λ (k : ℕ). AreSites b (hdrl.at + hdrl.len) k 0 (hdrl.at + 4) streams (strl_sites (site.ends && ends_list r.hdrl) 0 (site.at + 12) cs)) same
      (subst (λ (xs : List Span). AreSites b (hdrl.at + hdrl.len) (length b) 0 (hdrl.at + 4) xs (strl_sites (site.ends && ends_list r.hdrl) 0 (site.at + 12) cs)) (sym streams_told)
      (sites_are b (hdrl.at + hdrl.len) (length b) (site.ends && ends_list r.hdrl) 0 (site.at + 12) (hdrl.at + 4) cs left r.opens.1 list.pads stands ends (stand_end b (site.at + 12) (spell_all cs) stands) end low))

  pub sites_named : named_among e (strl_sites (site.ends && ends_list r.hdrl) 0 (site.at + 12) (list_run r.hdrl).chunks) ≡ sites_in e site
  sites_named = named_sites e (site.ends && ends_list r.hdrl) 0 (site.at + 12) (list_run r.hdrl).chunks

  pub inside_file : site.at + length (spell r.hdrl) ≤ length b
  inside_file = stand_end b site.at (spell r.hdrl) hdrl_stands
