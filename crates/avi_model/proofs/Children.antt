-- The first form when other names are set: its chunks are read again, and each stands where the spans put it.
use Rattle.std.proofs.Common.{◌≡◌, ℕ, ◌+◌, ◌^◌, ◌<◌, Bool, true, false, cond, List, [], ◌∷◌, ◌++◌, length, map, take, refl, sym, ap, subst, ◌∙◌, arith, inl, inr}
use Rattle.std.specs.Prelude.{◌&&◌, codes}
use Rattle.std.specs.List.{flat_map, AllByRecursion}
use Rattle.std.proofs.lemmas.List.{length-append, append-nil}
use Rattle.container_model.specs.Chunk.{Form, riff, Chunk, spell, spell_all, Pads, PadStands}
use Rattle.container_model.specs.Items.{is_nil}
use Rattle.container_model.specs.Splice.{Cut, shift, Outside}
use Rattle.container_model.specs.Stood.{Stood, bare, stood, only, first_of}
use Rattle.container_model.proofs.Copied.{moved_to, Moves_as_one, pairs_moved}
use Rattle.container_model.proofs.Goes.{Block, block_copy, block_both}
use Rattle.container_model.proofs.Plain.{ArePlain}
use Rattle.carrier_model.specs.Info.{list_run}
use Rattle.avi_model.specs.Avi.{kids}
use Rattle.avi_model.specs.Named.{Names, ends_list, is_hdrl, respelled, kids_named, hdrl_named, children_named, Site, hdrl_from, hdrl_cuts}
use Rattle.avi_model.proofs.Blocks.{block_same, Follows, follow_none, follow_same, follow_wider, follow_both, follow_before, follow_copied, both_fit}
use Rattle.avi_model.proofs.Respelled.{IsList, respelled_form, respelled_body, respelled_stands, list_type, list_length}
use Rattle.avi_model.proofs.Streams.{AreKids, list_with_plain, none_after, spell_long}
use Rattle.avi_model.proofs.StreamsGo.{all_in, hdrl_block, hdrl_follows}

-- what is opened in hdrl: it is read to its end, and so are the streams' lists in it
abbrev pub Opens : Chunk → Type 0
Opens c = IsList c × AreKids (list_run c).chunks

-- the first hdrl is opened
abbrev pub FirstOpens : List Chunk → Type 0
FirstOpens [] = Unit {0}
FirstOpens (c ∷ cs) = (is_hdrl c ≡ true → Opens c) × (is_hdrl c ≡ false → FirstOpens cs)

abbrev pub AreChildren : List Chunk → Type 0
AreChildren cs = ArePlain cs × FirstOpens cs

-- the chunks behind one that is no hdrl
pub behind_one : (c : Chunk) (cs : List Chunk) → AreChildren (c ∷ cs) → is_hdrl c ≡ false → AreChildren cs
behind_one c cs h i = (h.0.1, h.1.1 i)

module _ (e : Names) where
  -- the chunks of hdrl then
  abbrev pub kids_of : Bool → Chunk → List Chunk
  kids_of ends_too c = kids_named e (ends_too && ends_list c) 0 (list_run c).chunks

  pub children_plain : (ends_too : Bool) (cs : List Chunk) → AreChildren cs → ArePlain (children_named e ends_too cs)
  children_plain ends_too [] h = tt
  children_plain ends_too (c ∷ cs) h = go (is_hdrl c) refl (λ i. children_plain ends_too cs (behind_one c cs h i))
    where
      go : (t : Bool) → is_hdrl c ≡ t → (is_hdrl c ≡ false → ArePlain (children_named e ends_too cs)) → ArePlain (cond t (hdrl_named e (ends_too && is_nil cs) c ∷ cs) (c ∷ children_named e ends_too cs))
      go true i g = (list_with_plain c (kids_of (ends_too && is_nil cs) c) h.0.0, h.0.1)
      go false i g = (h.0.0, g i)

  pub children_pads : (ends_too : Bool) (cs : List Chunk) (left : List ℕ) → AreChildren cs → Pads cs left → Pads (children_named e ends_too cs) left
  children_pads ends_too [] left h p = tt
  children_pads ends_too (c ∷ cs) left h p = go (is_hdrl c) refl (λ i. children_pads ends_too cs left (behind_one c cs h i) p.1)
    where
      b : List ℕ
      b = take 4 c.body ++ (spell_all (kids_of (ends_too && is_nil cs) c) ++ (list_run c).left)

      none : spell_all cs ++ left ≡ [] → spell_all (children_named e ends_too cs) ++ left ≡ []
      none g = let z = none_after cs left g in ap (λ (xs : List Chunk). spell_all (children_named e ends_too xs) ++ left) z.0 ∙ z.1

      stands : PadStands c.form (length c.body) c.pad (spell_all cs ++ left) → PadStands c.form (length c.body) c.pad (spell_all (children_named e ends_too cs) ++ left)
      stands (inl q) = inl q
      stands (inr q) = inr (q.0, none q.1)

      hdrl : (b : List ℕ) → PadStands (respelled c b).form (length (respelled c b).body) (respelled c b).pad (spell_all cs ++ left)
      hdrl b =
          let old : PadStands riff (length c.body) c.pad (spell_all cs ++ left) = subst (λ (f : Form). PadStands f (length c.body) c.pad (spell_all cs ++ left)) h.0.0.form_is p.0 in
          let new = respelled_stands c b (spell_all cs ++ left) (spell_all cs ++ left) h.0.0.form_is (λ g. g) old in
          subst (λ (f : Form). PadStands f (length (respelled c b).body) (respelled c b).pad (spell_all cs ++ left)) (sym (respelled_form c b ∙ h.0.0.form_is)) (subst (λ (x : List ℕ). PadStands riff (length x) (respelled c b).pad (spell_all cs ++ left)) (sym (respelled_body c b)) new)

      go : (t : Bool) → is_hdrl c ≡ t → (is_hdrl c ≡ false → Pads (children_named e ends_too cs) left) → Pads (cond t (hdrl_named e (ends_too && is_nil cs) c ∷ cs) (c ∷ children_named e ends_too cs)) left
      go true i g = (hdrl (take 4 c.body ++ (spell_all (kids_of (ends_too && is_nil cs) c) ++ (list_run c).left)), p.1)
      go false i g = (stands p.0, g i)

  -- what a view that sees no difference in hdrl sees of the chunks
  pub children_seen : {X : Type 0} (v : Chunk → List X) → ((ends_too : Bool) (c : Chunk) → Opens c → is_hdrl c ≡ true → v (hdrl_named e ends_too c) ≡ v c) → (ends_too : Bool) (cs : List Chunk) → AreChildren cs → flat_map v (children_named e ends_too cs) ≡ flat_map v cs
  children_seen v same ends_too [] h = refl
  children_seen v same ends_too (c ∷ cs) h = go (is_hdrl c) refl (λ i. children_seen v same ends_too cs (behind_one c cs h i))
    where
      go : (t : Bool) → is_hdrl c ≡ t → (is_hdrl c ≡ false → flat_map v (children_named e ends_too cs) ≡ flat_map v cs) → flat_map v (cond t (hdrl_named e (ends_too && is_nil cs) c ∷ cs) (c ∷ children_named e ends_too cs)) ≡ v c ++ flat_map v cs
      go true i g = ap (λ (x : List _). x ++ flat_map v cs) (same (ends_too && is_nil cs) c (h.1.0 i) i)
      go false i g = ap (λ (x : List _). v c ++ x) (g i)

  -- ---- where they stand

  abbrev pub cuts_from : Bool → ℕ → List Chunk → List Cut
  cuts_from ends_too at cs = flat_map (hdrl_cuts e) (hdrl_from ends_too at cs)

  pub children_block : (ends_too : Bool) (at to : ℕ) (cs : List Chunk) → AreChildren cs → Block at to (at + length (spell_all cs)) (to + length (spell_all (children_named e ends_too cs))) (cuts_from ends_too at cs)
  children_block ends_too at to [] h = block_same at to (at + 0) (to + 0) at to (at + 0) (to + 0) [] refl refl refl refl (block_copy at to 0)
  children_block ends_too at to (c ∷ cs) h = go (is_hdrl c) refl (λ i. children_block ends_too (at + length (spell c)) (to + length (spell c)) cs (behind_one c cs h i))
    where
      go : (t : Bool) → is_hdrl c ≡ t → (is_hdrl c ≡ false → Block (at + length (spell c)) (to + length (spell c)) (at + length (spell c) + length (spell_all cs)) (to + length (spell c) + length (spell_all (children_named e ends_too cs))) (cuts_from ends_too (at + length (spell c)) cs))
          → Block at to (at + length (spell_all (c ∷ cs))) (to + length (spell_all (cond t (hdrl_named e (ends_too && is_nil cs) c ∷ cs) (c ∷ children_named e ends_too cs))))
          (flat_map (hdrl_cuts e) (cond t (record { at = at; ends = ends_too && is_nil cs; stream = 0; chunk = c } ∷ []) (hdrl_from ends_too (at + length (spell c)) cs)))
      go true i g =
          let o = h.1.0 i in
          let new = hdrl_named e (ends_too && is_nil cs) c in
          let next = at + length (spell c) in
          let goal = to + length (spell new) in
          block_both at to next goal (at + length (spell_all (c ∷ cs))) (to + length (spell_all (new ∷ cs))) (hdrl_cuts e (record { at = at; ends = ends_too && is_nil cs; stream = 0; chunk = c })) [] (hdrl_block e (ends_too && is_nil cs) c h.0.0 o.0 o.1 at to)
          (block_same next goal (next + length (spell_all cs)) (goal + length (spell_all cs)) next goal (at + length (spell_all (c ∷ cs))) (to + length (spell_all (new ∷ cs))) [] refl refl (omega (arith, length-append (spell c) (spell_all cs))) (omega (arith, length-append (spell new) (spell_all cs))) (block_copy next goal (length (spell_all cs))))
      go false i g =
          let next = at + length (spell c) in
          let goal = to + length (spell c) in
          block_both at to next goal (at + length (spell_all (c ∷ cs))) (to + length (spell_all (c ∷ children_named e ends_too cs))) [] (cuts_from ends_too next cs) (block_copy at to (length (spell c)))
          (block_same next goal (next + length (spell_all cs)) (goal + length (spell_all (children_named e ends_too cs))) next goal (at + length (spell_all (c ∷ cs))) (to + length (spell_all (c ∷ children_named e ends_too cs))) (cuts_from ends_too next cs) refl refl
          (omega (arith, length-append (spell c) (spell_all cs))) (omega (arith, length-append (spell c) (spell_all (children_named e ends_too cs)))) (g i))

  -- chunks that are copied
  all_copied : (p : Chunk → Bool) (at to : ℕ) (cs : List Chunk) → Follows [] at to (at + length (spell_all cs)) (only p (stood at cs)) (only p (stood to cs))
  all_copied p at to cs =
      let z : at + 0 ≡ at = omega arith in
      let y : to + 0 ≡ to = omega arith in
      let f = follow_copied p at to 0 cs in
      let f2 = subst (λ (k : ℕ). Follows [] at to (at + 0 + length (spell_all cs)) (only p (stood k cs)) (only p (stood (to + 0) cs))) z f in
      let f3 = subst (λ (k : ℕ). Follows [] at to (at + 0 + length (spell_all cs)) (only p (stood at cs)) (only p (stood k cs))) y f2 in
      record { found = f3.found; news_are = f3.news_are; olds_are = f3.olds_are; go = f3.go; fits = both_fit _ 0 (at + length (spell_all cs)) f3.found (omega arith) f3.fits }

  only_first : (p : Chunk → Bool) (x : Stood) (xs : List Stood) → only p (x ∷ xs) ≡ cond (p x.chunk) (x ∷ []) [] ++ only p xs
  only_first p x xs = go (p x.chunk)
    where
      go : (t : Bool) → cond t (x ∷ only p xs) (only p xs) ≡ cond t (x ∷ []) [] ++ only p xs
      go true = refl
      go false = refl

  -- chunks that are found by a test that sees no hdrl
  pub children_follow : (p : Chunk → Bool) → ((c : Chunk) → is_hdrl c ≡ true → p (bare c) ≡ false) → (ends_too : Bool) (at to : ℕ) (cs : List Chunk) → AreChildren cs
      → Follows (cuts_from ends_too at cs) at to (at + length (spell_all cs)) (only p (stood at cs)) (only p (stood to (children_named e ends_too cs)))
  children_follow p none ends_too at to [] h = follow_none [] at to (at + 0)
  children_follow p none ends_too at to (c ∷ cs) h = go (is_hdrl c) refl (λ i. children_follow p none ends_too (at + length (spell c)) (to + length (spell c)) cs (behind_one c cs h i))
    where
      go : (t : Bool) → is_hdrl c ≡ t → (is_hdrl c ≡ false → Follows (cuts_from ends_too (at + length (spell c)) cs) (at + length (spell c)) (to + length (spell c)) (at + length (spell c) + length (spell_all cs)) (only p (stood (at + length (spell c)) cs)) (only p (stood (to + length (spell c)) (children_named e ends_too cs))))
          → Follows (flat_map (hdrl_cuts e) (cond t (record { at = at; ends = ends_too && is_nil cs; stream = 0; chunk = c } ∷ []) (hdrl_from ends_too (at + length (spell c)) cs))) at to (at + length (spell_all (c ∷ cs))) (only p (stood at (c ∷ cs)))
          (only p (stood to (cond t (hdrl_named e (ends_too && is_nil cs) c ∷ cs) (c ∷ children_named e ends_too cs))))
      go true i g =
          let o = h.1.0 i in
          let new = hdrl_named e (ends_too && is_nil cs) c in
          let site : Site = record { at = at; ends = ends_too && is_nil cs; stream = 0; chunk = c } in
          let next = at + length (spell c) in
          let goal = to + length (spell new) in
          let end = at + length (spell_all (c ∷ cs)) in
          let typed : is_hdrl new ≡ true = list_type (codes "hdrl") c (kids_of (ends_too && is_nil cs) c) o.0 ∙ i in
          let olds : only p (stood at (c ∷ cs)) ≡ only p (stood next cs) = ap (λ (b : Bool). cond b (record { at = at; chunk = bare c } ∷ only p (stood next cs)) (only p (stood next cs))) (none c i) in
          let news : only p (stood to (new ∷ cs)) ≡ only p (stood goal cs) = ap (λ (b : Bool). cond b (record { at = to; chunk = bare new } ∷ only p (stood goal cs)) (only p (stood goal cs))) (none new typed) in
          let long : next + length (spell_all cs) ≡ end = omega (arith, length-append (spell c) (spell_all cs)) in
          let rest = subst (λ (k : ℕ). Follows [] next goal k (only p (stood next cs)) (only p (stood goal cs))) long (all_copied p next goal cs) in
          let copied = block_same next goal (next + length (spell_all cs)) (goal + length (spell_all cs)) next goal end (goal + length (spell_all cs)) [] refl refl (sym long) refl (block_copy next goal (length (spell_all cs))) in
          follow_same (hdrl_cuts e site ++ []) at to end (only p (stood next cs)) (only p (stood goal cs)) (only p (stood at (c ∷ cs))) (only p (stood to (new ∷ cs))) olds news
          (follow_both (hdrl_cuts e site) [] at to next goal end (goal + length (spell_all cs)) [] [] (only p (stood next cs)) (only p (stood goal cs)) (omega (arith, long))
          (hdrl_block e (ends_too && is_nil cs) c h.0.0 o.0 o.1 at to) copied (follow_none (hdrl_cuts e site) at to next) rest)
      go false i g =
          let next = at + length (spell c) in
          let goal = to + length (spell c) in
          let more = children_named e ends_too cs in
          let end = at + length (spell_all (c ∷ cs)) in
          let long : next + length (spell_all cs) ≡ end = omega (arith, length-append (spell c) (spell_all cs)) in
          let one = all_copied p at to (c ∷ []) in
          let first = subst (λ (k : ℕ). Follows [] at to k (only p (stood at (c ∷ []))) (only p (stood to (c ∷ [])))) (ap (λ (x : List ℕ). at + length x) (append-nil (spell c))) one in
          let rest = subst (λ (k : ℕ). Follows (cuts_from ends_too next cs) next goal k (only p (stood next cs)) (only p (stood goal more))) long (g i) in
          let block = block_same next goal (next + length (spell_all cs)) (goal + length (spell_all more)) next goal end (goal + length (spell_all more)) (cuts_from ends_too next cs) refl refl (sym long) refl (children_block ends_too next goal cs (behind_one c cs h i)) in
          follow_same (cuts_from ends_too next cs) at to end (only p (stood at (c ∷ [])) ++ only p (stood next cs)) (only p (stood to (c ∷ [])) ++ only p (stood goal more)) (only p (stood at (c ∷ cs))) (only p (stood to (c ∷ more)))
          (only_first p (record { at = at; chunk = bare c }) (stood next cs)) (only_first p (record { at = to; chunk = bare c }) (stood goal more))
          (follow_both [] (cuts_from ends_too next cs) at to next goal end (goal + length (spell_all more)) (only p (stood at (c ∷ []))) (only p (stood to (c ∷ []))) (only p (stood next cs)) (only p (stood goal more)) (omega (arith, long))
          (block_copy at to (length (spell c))) block first rest)

  -- the first hdrl is short enough for its size
  abbrev pub HdrlSmall : Bool → List Chunk → Type 0
  HdrlSmall ends_too [] = Unit {0}
  HdrlSmall ends_too (c ∷ cs) = (is_hdrl c ≡ true → length (hdrl_named e (ends_too && is_nil cs) c).body < 2 ^ 32) × (is_hdrl c ≡ false → HdrlSmall ends_too cs)

  pub all_small : (ends_too : Bool) (cs : List Chunk) → length (spell_all (children_named e ends_too cs)) < 2 ^ 32 → HdrlSmall ends_too cs
  all_small ends_too [] lt = tt
  all_small ends_too (c ∷ cs) lt = ((λ i. here i), (λ i. all_small ends_too cs (more i)))
    where
      here : is_hdrl c ≡ true → length (hdrl_named e (ends_too && is_nil cs) c).body < 2 ^ 32
      here i =
          let l : length (spell_all (hdrl_named e (ends_too && is_nil cs) c ∷ cs)) < 2 ^ 32 = subst (λ (b : Bool). length (spell_all (cond b (hdrl_named e (ends_too && is_nil cs) c ∷ cs) (c ∷ children_named e ends_too cs))) < 2 ^ 32) i lt in
          omega (arith, l, spell_long (hdrl_named e (ends_too && is_nil cs) c), length-append (spell (hdrl_named e (ends_too && is_nil cs) c)) (spell_all cs))

      more : is_hdrl c ≡ false → length (spell_all (children_named e ends_too cs)) < 2 ^ 32
      more i =
          let l : length (spell_all (c ∷ children_named e ends_too cs)) < 2 ^ 32 = subst (λ (b : Bool). length (spell_all (cond b (hdrl_named e (ends_too && is_nil cs) c ∷ cs) (c ∷ children_named e ends_too cs))) < 2 ^ 32) i lt in
          omega (arith, l, length-append (spell c) (spell_all (children_named e ends_too cs)))

  -- the index chunks of the streams' lists in the first hdrl
  abbrev pub stream_in : List Stood → List Stood
  stream_in xs = all_in e (flat_map kids (first_of (only is_hdrl xs)))

  pub streams_follow : (ends_too : Bool) (at to : ℕ) (cs : List Chunk) → AreChildren cs → HdrlSmall ends_too cs
      → Follows (cuts_from ends_too at cs) at to (at + length (spell_all cs)) (stream_in (stood at cs)) (stream_in (stood to (children_named e ends_too cs)))
  streams_follow ends_too at to [] h lt = follow_none [] at to (at + 0)
  streams_follow ends_too at to (c ∷ cs) h lt = go (is_hdrl c) refl (λ i. streams_follow ends_too (at + length (spell c)) (to + length (spell c)) cs (behind_one c cs h i) (lt.1 i))
    where
      go : (t : Bool) → is_hdrl c ≡ t
          → (is_hdrl c ≡ false → Follows (cuts_from ends_too (at + length (spell c)) cs) (at + length (spell c)) (to + length (spell c)) (at + length (spell c) + length (spell_all cs)) (stream_in (stood (at + length (spell c)) cs)) (stream_in (stood (to + length (spell c)) (children_named e ends_too cs))))
          → Follows (flat_map (hdrl_cuts e) (cond t (record { at = at; ends = ends_too && is_nil cs; stream = 0; chunk = c } ∷ []) (hdrl_from ends_too (at + length (spell c)) cs))) at to (at + length (spell_all (c ∷ cs))) (stream_in (stood at (c ∷ cs)))
          (stream_in (stood to (cond t (hdrl_named e (ends_too && is_nil cs) c ∷ cs) (c ∷ children_named e ends_too cs))))
      go true i again =
          let o = h.1.0 i in
          let new = hdrl_named e (ends_too && is_nil cs) c in
          let site : Site = record { at = at; ends = ends_too && is_nil cs; stream = 0; chunk = c } in
          let next = at + length (spell c) in
          let goal = to + length (spell new) in
          let end = at + length (spell_all (c ∷ cs)) in
          let x : Stood = record { at = at; chunk = bare c } in
          let y : Stood = record { at = to; chunk = bare new } in
          let typed : is_hdrl new ≡ true = list_type (codes "hdrl") c (kids_of (ends_too && is_nil cs) c) o.0 ∙ i in
          let olds : stream_in (x ∷ stood next cs) ≡ all_in e (kids x) = ap (λ (b : Bool). all_in e (flat_map kids (first_of (cond b (x ∷ only is_hdrl (stood next cs)) (only is_hdrl (stood next cs)))))) i ∙ ap (all_in e) (append-nil (kids x)) in
          let news : stream_in (y ∷ stood goal cs) ≡ all_in e (kids y) = ap (λ (b : Bool). all_in e (flat_map kids (first_of (cond b (y ∷ only is_hdrl (stood goal cs)) (only is_hdrl (stood goal cs)))))) typed ∙ ap (all_in e) (append-nil (kids y)) in
          let long : next + length (spell_all cs) ≡ end = omega (arith, length-append (spell c) (spell_all cs)) in
          let inside : length (spell_all (kids_of (ends_too && is_nil cs) c)) < 2 ^ 32 = omega (arith, lt.0 i, list_length c (kids_of (ends_too && is_nil cs) c) o.0) in
          let copied = block_same next goal (next + length (spell_all cs)) (goal + length (spell_all cs)) next goal end (goal + length (spell_all cs)) [] refl refl (sym long) refl (block_copy next goal (length (spell_all cs))) in
          follow_same (hdrl_cuts e site ++ []) at to end (all_in e (kids x)) (all_in e (kids y)) (stream_in (stood at (c ∷ cs))) (stream_in (stood to (new ∷ cs))) olds news
          (follow_before (hdrl_cuts e site) [] at to next goal end (goal + length (spell_all cs)) (all_in e (kids x)) (all_in e (kids y)) (omega (arith, long)) copied (hdrl_follows e (ends_too && is_nil cs) c h.0.0 o.0 o.1 at to inside))
      go false i again =
          let next = at + length (spell c) in
          let goal = to + length (spell c) in
          let more = children_named e ends_too cs in
          let end = at + length (spell_all (c ∷ cs)) in
          let x : Stood = record { at = at; chunk = bare c } in
          let y : Stood = record { at = to; chunk = bare c } in
          let olds : stream_in (x ∷ stood next cs) ≡ stream_in (stood next cs) = ap (λ (b : Bool). all_in e (flat_map kids (first_of (cond b (x ∷ only is_hdrl (stood next cs)) (only is_hdrl (stood next cs)))))) i in
          let news : stream_in (y ∷ stood goal more) ≡ stream_in (stood goal more) = ap (λ (b : Bool). all_in e (flat_map kids (first_of (cond b (y ∷ only is_hdrl (stood goal more)) (only is_hdrl (stood goal more)))))) i in
          follow_same (cuts_from ends_too next cs) at to end (stream_in (stood next cs)) (stream_in (stood goal more)) (stream_in (stood at (c ∷ cs))) (stream_in (stood to (c ∷ more))) olds news
          (follow_wider (cuts_from ends_too next cs) at to (length (spell c)) (next + length (spell_all cs)) end (stream_in (stood next cs)) (stream_in (stood goal more)) (omega (arith, length-append (spell c) (spell_all cs)))
          (again i))

  -- ---- the same as a move of places

  pub moves_with : (cs : List Cut) (at end : ℕ) (olds news : List Stood) → Follows cs at at end olds news → (news ≡ map (moved_to (shift cs)) olds) × AllByRecursion (Moves_as_one (shift cs) (Outside cs)) olds
  moves_with cs at end olds news f =
      let m = pairs_moved cs at f.found f.go in
      (sym f.news_are ∙ m.0 ∙ ap (map (moved_to (shift cs))) f.olds_are, subst (AllByRecursion (Moves_as_one (shift cs) (Outside cs))) f.olds_are m.1)
