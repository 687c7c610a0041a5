-- The forms of the new file: they are read again, each to its end, and its essence is the old one where it goes.
use Rattle.std.proofs.Common.{◌≡◌, ℕ, ◌+◌, ◌≤◌, true, List, [], ◌∷◌, ◌++◌, length, map, refl, sym, ap, subst, ◌∙◌, arith, inl, inr}
use Rattle.std.specs.Prelude.{codes}
use Rattle.std.specs.List.{flat_map, AllByRecursion}
use Rattle.std.proofs.lemmas.List.{length-append}
use Rattle.container_model.specs.Chunk.{Chunk, Run, ends, spell, spell_all}
use Rattle.container_model.specs.Stood.{Stood, bare, stood, only}
use Rattle.container_model.specs.Written.{Write}
use Rattle.container_model.proofs.Codec.{IsBytes}
use Rattle.container_model.proofs.Plain.{plain_again}
use Rattle.container_model.proofs.Written.{renewed}
use Rattle.container_model.proofs.Copied.{Moves_as_one, map_append}
use Rattle.container_model.proofs.Stay.{Rigid}
use Rattle.container_model.proofs.Stood.{carried_to, stood_carried}
use Rattle.carrier_model.specs.Info.{list_run}
use Rattle.avi_model.specs.Avi.{forms, Avi, avi_of, form_of, spell_avi, kids, top, others_at, is_movi, essence}
use Rattle.opendml_index.specs.Index.{move}
use Rattle.avi_model.specs.Index.{writes}
use Rattle.avi_model.specs.Support.{begins, ListEnds, Supported}
use Rattle.avi_model.proofs.Read.{Others, renewed_avi, others_place, forms_again}
use Rattle.avi_model.proofs.Walk.{IsRiffHead, TypeStays, Open, kids_all, lists_carried}
use Rattle.avi_model.proofs.Among.{Among, all_among}
use Rattle.avi_model.proofs.Levels.{Ended, further_whole}
use Rattle.avi_model.proofs.Lies.{kids_heads}
use Rattle.avi_model.proofs.Clear.{further_open, further_types}
use Rattle.avi_model.proofs.Sound.{ended, writes_lie}
use Rattle.avi_model.proofs.Laid.{IsLaid}
use Rattle.avi_model.proofs.Lists.{open_ends, spell_begins}

module _ (o : List ℕ) (bytes : IsBytes o) (s : Supported o) (f : ℕ → ℕ) (Free : ℕ → Type 0) (after : Avi) (facts : IsLaid o f Free after) where
  abbrev a : Avi
  a = avi_of o

  abbrev ws : List Write
  ws = writes (move f) o

  abbrev b : Avi
  b = renewed_avi ws a

  g : Ended (avi_of o)
  g = ended o bytes s

  lie : AllByRecursion (λ w. Rattle.avi_model.proofs.Lies.Lies (avi_of o) w.at (length w.bytes)) (writes (move f) o)
  lie = writes_lie o bytes s (move f)

  forms_are : forms (spell_avi after) ≡ record { chunks = form_of after ∷ after.others; stop = ends; left = after.tail }
  forms_are = forms_again after facts.readable

  pub new_begins : begins (spell_avi after) ≡ true
  new_begins = spell_begins after

  pub new_forms_end : (forms (spell_avi after)).stop ≡ ends
  new_forms_end = ap (λ (r : Run). r.stop) forms_are

  form_chunks : list_run (form_of after) ≡ record { chunks = after.children; stop = ends; left = after.left }
  form_chunks =
      plain_again after.children after.left facts.readable.plain_chunks facts.readable.pads facts.readable.few_left (omega (arith, facts.readable.small, length-append (spell_all after.children) after.left))

  -- the further forms stand where they go
  further_carried : (others_at after ≡ map (carried_to f ws) (others_at a)) × AllByRecursion (Moves_as_one f Free) (others_at a)
  further_carried =
      let q = others_place a in
      let here = facts.past q (omega arith) in
      let to : f q ≡ others_place after = omega (arith, here.1) in
      let rigid : Rigid f Free q (length (spell_all a.others)) = λ i lt. let k = facts.past (q + i) (omega arith) in (k.0, omega (arith, k.1, here.1)) in
      let m = stood_carried f Free ws q (length (spell_all a.others)) rigid 0 a.others (omega arith) in
      let z : q + 0 ≡ q = omega arith in
      let y : f q + 0 ≡ others_place after = omega (arith, to) in
      let one : stood (others_place after) after.others ≡ map (carried_to f ws) (stood q a.others)
      = ap (stood (others_place after)) facts.others_are ∙ ap (λ (k : ℕ). stood k (renewed ws q a.others)) (sym y) ∙ ap (λ (k : ℕ). stood (f q + 0) (renewed ws k a.others)) (sym z) ∙ m.0 ∙ ap (λ (k : ℕ). map (carried_to f ws) (stood k a.others)) z in
      (one, subst (λ (k : ℕ). AllByRecursion (Moves_as_one f Free) (stood k a.others)) z m.1)

  further_heads : AllByRecursion IsRiffHead (others_at a)
  further_heads = all_among IsRiffHead (others_at a) (λ x i. (further_whole a g x i).head)

  further_ends : AllByRecursion ListEnds (others_at after)
  further_ends = subst (AllByRecursion ListEnds) (sym further_carried.0) (go (others_at a) (λ x i. open_ends f ws x (further_whole a g x i).head (further_open a g ws lie x i)))
    where
      go : (xs : List Stood) → ((x : Stood) → Among x xs → ListEnds (carried_to f ws x)) → AllByRecursion ListEnds (map (carried_to f ws) xs)
      go [] h = tt
      go (x ∷ xs) h = (h x (inl refl), go xs (λ y i. h y (inr i)))

  unstood : (P : Chunk → Type 0) → ((c : Chunk) → P (bare c) → P c) → (at : ℕ) (cs : List Chunk) → AllByRecursion (λ x. P x.chunk) (stood at cs) → AllByRecursion P cs
  unstood P h at [] g = tt
  unstood P h at (c ∷ cs) g = (h c g.0, unstood P h (at + length (spell c)) cs g.1)

  pub new_forms_read : AllByRecursion (λ c. (list_run c).stop ≡ ends) (forms (spell_avi after)).chunks
  new_forms_read =
      subst (λ (cs : List Chunk). AllByRecursion (λ c. (list_run c).stop ≡ ends) cs) (sym (ap (λ (r : Run). r.chunks) forms_are))
      (ap (λ (r : Run). r.stop) form_chunks, unstood (λ c. (list_run c).stop ≡ ends) (λ c h. h) (others_place after) after.others further_ends)

  pub new_forms_long : AllByRecursion (λ c. 4 ≤ length c.body) (forms (spell_avi after)).chunks
  new_forms_long =
      subst (λ (cs : List Chunk). AllByRecursion (λ c. 4 ≤ length c.body) cs) (sym (ap (λ (r : Run). r.chunks) forms_are))
      (omega arith, go after.others facts.readable.others_are)
    where
      go : (cs : List Chunk) → Others cs → AllByRecursion (λ c. 4 ≤ length c.body) cs
      go [] h = tt
      go (c ∷ cs) h = (h.0.long, go cs h.1)

  -- ---- the essence

  further_movis : (xs : List Stood) → AllByRecursion IsRiffHead xs → AllByRecursion (Open ws) xs → AllByRecursion (Moves_as_one f Free) xs → ((x : Stood) → Among x xs → AllByRecursion (TypeStays ws) (kids x))
      → flat_map (λ x. only is_movi (kids x)) (map (carried_to f ws) xs) ≡ map (carried_to f ws) (flat_map (λ x. only is_movi (kids x)) xs)
  further_movis [] h o m t = refl
  further_movis (x ∷ xs) h o m t =
      let k = kids_all f Free ws (x ∷ []) (h.0, tt) (o.0, tt) (m.0, tt) in
      let one : kids (carried_to f ws x) ≡ map (carried_to f ws) (kids x) = sym (Rattle.std.proofs.lemmas.List.append-nil (kids (carried_to f ws x))) ∙ k.0 ∙ ap (map (carried_to f ws)) (Rattle.std.proofs.lemmas.List.append-nil (kids x)) in
      let two : only is_movi (kids (carried_to f ws x)) ≡ map (carried_to f ws) (only is_movi (kids x)) = ap (only is_movi) one ∙ lists_carried f Free ws (codes "movi") (kids x) (kids_heads x) (t x (inl refl)) in
      ap (λ (y : List Stood). y ++ flat_map (λ x. only is_movi (kids x)) (map (carried_to f ws) xs)) two ∙ ap (λ (y : List Stood). map (carried_to f ws) (only is_movi (kids x)) ++ y) (further_movis xs h.1 o.1 m.1 (λ y i. t y (inr i)))
      ∙ sym (map_append (carried_to f ws) (only is_movi (kids x)) (flat_map (λ x. only is_movi (kids x)) xs))

  -- The essence of the new file is the old one, where it goes.
  pub essence_moves : essence after ≡ map (carried_to f (writes (move f) o)) (essence (avi_of o))
  essence_moves =
      ap (λ (xs : List Stood). xs ++ flat_map (λ x. only is_movi (kids x)) (others_at after)) facts.movis.0
      ∙ ap (λ (xs : List Stood). map (carried_to f ws) (only is_movi (top a)) ++ flat_map (λ x. only is_movi (kids x)) xs) further_carried.0
      ∙ ap (λ (xs : List Stood). map (carried_to f ws) (only is_movi (top a)) ++ xs) (further_movis (others_at a) further_heads (all_among (Open ws) (others_at a) (λ x i. further_open a g ws lie x i)) further_carried.1 (λ x i. further_types a g ws lie x i))
      ∙ sym (map_append (carried_to f ws) (only is_movi (top a)) (flat_map (λ x. only is_movi (kids x)) (others_at a)))

  pub new_movis : length (only is_movi (top after)) ≡ length (only is_movi (top a))
  new_movis = ap length facts.movis.0 ∙ Rattle.std.proofs.lemmas.List.length-map (only is_movi (top a)) (carried_to f ws)
