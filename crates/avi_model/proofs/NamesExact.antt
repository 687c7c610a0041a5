-- A file whose streams have names is supported exactly where no test of the reading order holds.
use Rattle.std.proofs.Common.{◌≡◌, ℕ, ◌+◌, ◌≤◌, Bool, true, false, cond, List, [], ◌∷◌, ◌++◌, length, None, refl, sym, ap, subst, ◌∙◌, arith}
use Rattle.std.specs.Prelude.{◌&&◌, ◌||◌, not, codes}
use Rattle.std.specs.List.{flat_map, AllByRecursion}
use Rattle.container_model.specs.Chunk.{Chunk, spell, spell_all, read, chunks}
use Rattle.container_model.specs.Stood.{Stood, bare, stood, only, first_of}
use Rattle.container_model.proofs.Tests.{AllFalse, first_none, none_first}
use Rattle.carrier_model.specs.Info.{is_type}
use Rattle.carrier_model.specs.Names.{is_name}
use Rattle.avi_model.specs.Avi.{forms, avi_of, kids, strls}
use Rattle.avi_model.specs.Support.{list_limit, part_limit, NamesSmall, SupportedNames}
use Rattle.avi_model.specs.Reading.{Step, end_at, list_end, part_of, flat_steps, name_part, name_steps, stream_steps_by, hdrl_steps_by, inside_steps_by, is_info, top_steps_by, first_steps_by, further_steps, form_steps_by, reading, named_reading, parts_met}
use Rattle.avi_model.specs.Why.{Test, steps_tests, tests, tests_of, why_named}
use Rattle.avi_model.proofs.Exact.{supported_from, from_supported}
use Rattle.avi_model.proofs.Lists.{all_both}
use Rattle.avi_model.proofs.Sound.{all_left, all_right}
use Rattle.avi_model.proofs.Whys.{StepFine, AllFine, avi_from, fine_steps, kids_count, parts_append, steps_fine}

-- ---- a stream's list

name_left : (xs : List Stood) → AllFine (flat_map name_part xs) → AllFine (flat_map part_of xs)
name_left [] h = tt
name_left (x ∷ xs) h = ((λ e. absurd cc), name_left xs h.1)

names_fine : (xs : List Stood) → AllFine (flat_map name_part xs) → AllByRecursion (λ (c : Stood). is_name c.chunk ≡ true → length c.chunk.body ≤ list_limit) xs
names_fine [] h = tt
names_fine (x ∷ xs) h = (h.0, names_fine xs h.1)

fine_names : (xs : List Stood) → AllByRecursion (λ (c : Stood). is_name c.chunk ≡ true → length c.chunk.body ≤ list_limit) xs → AllFine (flat_map name_part xs)
fine_names [] h = tt
fine_names (x ∷ xs) h = (h.0, fine_names xs h.1)

names_count : (xs : List Stood) → parts_met (flat_map name_part xs) ≡ length xs
names_count [] = refl
names_count (x ∷ xs) = omega (arith, names_count xs)

list_split : (x : Stood) → AllFine (name_steps x) → AllFine (flat_steps x) × NamesSmall x
list_split x h =
    let names = all_left StepFine (flat_map name_part (kids x)) (list_end x ∷ []) h in
    (all_both StepFine (flat_map part_of (kids x)) (list_end x ∷ []) (name_left (kids x) names) (all_right StepFine (flat_map name_part (kids x)) (list_end x ∷ []) h), names_fine (kids x) names)

list_join : (x : Stood) → AllFine (flat_steps x) → NamesSmall x → AllFine (name_steps x)
list_join x h s = all_both StepFine (flat_map name_part (kids x)) (list_end x ∷ []) (fine_names (kids x) s) (all_right StepFine (flat_map part_of (kids x)) (list_end x ∷ []) h)

list_same : (x : Stood) → parts_met (name_steps x) ≡ parts_met (flat_steps x)
list_same x = omega (arith, parts_append (flat_map name_part (kids x)) (list_end x ∷ []), parts_append (flat_map part_of (kids x)) (list_end x ∷ []), names_count (kids x), kids_count (kids x))

-- ---- hdrl

abbrev strls_among : List Stood → List Stood
strls_among xs = only (is_type (codes "strl")) xs

kids_split : (xs : List Stood) → AllFine (flat_map (stream_steps_by name_steps) xs) → AllFine (flat_map (stream_steps_by flat_steps) xs) × AllByRecursion NamesSmall (strls_among xs)
kids_split [] h = (tt, tt)
kids_split (x ∷ xs) h =
    let one = all_left StepFine (stream_steps_by name_steps x) (flat_map (stream_steps_by name_steps) xs) h in
    let more = kids_split xs (all_right StepFine (stream_steps_by name_steps x) (flat_map (stream_steps_by name_steps) xs) h) in
    go (is_type (codes "strl") x.chunk) one.1 more
  where
    go : (t : Bool) → AllFine (cond t (name_steps x) []) → AllFine (flat_map (stream_steps_by flat_steps) xs) × AllByRecursion NamesSmall (strls_among xs)
        → AllFine ((Step.part_at false x ∷ cond t (flat_steps x) []) ++ flat_map (stream_steps_by flat_steps) xs) × AllByRecursion NamesSmall (cond t (x ∷ strls_among xs) (strls_among xs))
    go true k more = let z = list_split x k in (((λ e. absurd cc), all_both StepFine (flat_steps x) (flat_map (stream_steps_by flat_steps) xs) z.0 more.0), (z.1, more.1))
    go false k more = (((λ e. absurd cc), more.0), more.1)

kids_join : (xs : List Stood) → AllFine (flat_map (stream_steps_by flat_steps) xs) → AllByRecursion NamesSmall (strls_among xs) → AllFine (flat_map (stream_steps_by name_steps) xs)
kids_join [] h s = tt
kids_join (x ∷ xs) h s =
    let one = all_left StepFine (stream_steps_by flat_steps x) (flat_map (stream_steps_by flat_steps) xs) h in
    let more = all_right StepFine (stream_steps_by flat_steps x) (flat_map (stream_steps_by flat_steps) xs) h in
    go (is_type (codes "strl") x.chunk) one.1 s (λ k. kids_join xs more k)
  where
    go : (t : Bool) → AllFine (cond t (flat_steps x) []) → AllByRecursion NamesSmall (cond t (x ∷ strls_among xs) (strls_among xs)) → (AllByRecursion NamesSmall (strls_among xs) → AllFine (flat_map (stream_steps_by name_steps) xs))
        → AllFine ((Step.part_at false x ∷ cond t (name_steps x) []) ++ flat_map (stream_steps_by name_steps) xs)
    go true k s again = ((λ e. absurd cc), all_both StepFine (name_steps x) (flat_map (stream_steps_by name_steps) xs) (list_join x k s.0) (again s.1))
    go false k s again = ((λ e. absurd cc), again s)

kids_same : (xs : List Stood) → parts_met (flat_map (stream_steps_by name_steps) xs) ≡ parts_met (flat_map (stream_steps_by flat_steps) xs)
kids_same [] = refl
kids_same (x ∷ xs) = go (is_type (codes "strl") x.chunk) (kids_same xs)
  where
    go : (t : Bool) → parts_met (flat_map (stream_steps_by name_steps) xs) ≡ parts_met (flat_map (stream_steps_by flat_steps) xs)
        → parts_met ((Step.part_at false x ∷ cond t (name_steps x) []) ++ flat_map (stream_steps_by name_steps) xs) ≡ parts_met ((Step.part_at false x ∷ cond t (flat_steps x) []) ++ flat_map (stream_steps_by flat_steps) xs)
    go true e = omega (arith, e, list_same x, parts_append (name_steps x) (flat_map (stream_steps_by name_steps) xs), parts_append (flat_steps x) (flat_map (stream_steps_by flat_steps) xs))
    go false e = omega (arith, e)

hdrl_split : (x : Stood) → AllFine (hdrl_steps_by name_steps x) → AllFine (hdrl_steps_by flat_steps x) × AllByRecursion NamesSmall (strls_among (kids x))
hdrl_split x h =
    let k = kids_split (kids x) (all_left StepFine (flat_map (stream_steps_by name_steps) (kids x)) (list_end x ∷ []) h) in
    (all_both StepFine (flat_map (stream_steps_by flat_steps) (kids x)) (list_end x ∷ []) k.0 (all_right StepFine (flat_map (stream_steps_by name_steps) (kids x)) (list_end x ∷ []) h), k.1)

hdrl_join : (x : Stood) → AllFine (hdrl_steps_by flat_steps x) → AllByRecursion NamesSmall (strls_among (kids x)) → AllFine (hdrl_steps_by name_steps x)
hdrl_join x h s =
    all_both StepFine (flat_map (stream_steps_by name_steps) (kids x)) (list_end x ∷ []) (kids_join (kids x) (all_left StepFine (flat_map (stream_steps_by flat_steps) (kids x)) (list_end x ∷ []) h) s)
    (all_right StepFine (flat_map (stream_steps_by flat_steps) (kids x)) (list_end x ∷ []) h)

hdrl_same : (x : Stood) → parts_met (hdrl_steps_by name_steps x) ≡ parts_met (hdrl_steps_by flat_steps x)
hdrl_same x = omega (arith, kids_same (kids x), parts_append (flat_map (stream_steps_by name_steps) (kids x)) (list_end x ∷ []), parts_append (flat_map (stream_steps_by flat_steps) (kids x)) (list_end x ∷ []))

-- ---- the first form

-- the streams' lists in the first hdrl, where none came before
abbrev strls_in : Bool → List Stood → List Stood
strls_in true xs = []
strls_in false xs = strls_among (flat_map kids (first_of (only (is_type (codes "hdrl")) xs)))

abbrev Strls : Bool → List Stood → Type 0
Strls seen xs = AllByRecursion NamesSmall (strls_in seen xs)

none_seen : (seen : Bool) → Strls seen []
none_seen true = tt
none_seen false = tt

-- what stands in a chunk that is no first hdrl
inside_other : (i : Bool) (x : Stood) → inside_steps_by name_steps false i x ≡ inside_steps_by flat_steps false i x
inside_other true x = refl
inside_other false x = refl

strls_here : (x : Stood) (xs : List Stood) → is_type (codes "hdrl") x.chunk ≡ true → strls_in false (x ∷ xs) ≡ strls_among (kids x)
strls_here x xs h = ap (λ (b : Bool). strls_among (flat_map kids (first_of (cond b (x ∷ only (is_type (codes "hdrl")) xs) (only (is_type (codes "hdrl")) xs))))) h ∙ ap strls_among (Rattle.std.proofs.lemmas.List.append-nil (kids x))

strls_further : (x : Stood) (xs : List Stood) → is_type (codes "hdrl") x.chunk ≡ false → strls_in false (x ∷ xs) ≡ strls_in false xs
strls_further x xs h = ap (λ (b : Bool). strls_among (flat_map kids (first_of (cond b (x ∷ only (is_type (codes "hdrl")) xs) (only (is_type (codes "hdrl")) xs))))) h

abbrev here : Bool → Stood → Bool
here seen x = not seen && is_type (codes "hdrl") x.chunk

abbrev next : Bool → Stood → Bool
next seen x = seen || is_type (codes "hdrl") x.chunk

top_split : (seen : Bool) (xs : List Stood) → AllFine (top_steps_by name_steps seen xs) → AllFine (top_steps_by flat_steps seen xs) × Strls seen xs
top_split seen [] h = (tt, none_seen seen)
top_split seen (x ∷ xs) h =
    let inside = all_left StepFine (inside_steps_by name_steps (here seen x) (is_info x) x) (top_steps_by name_steps (next seen x) xs) h.1 in
    let more = all_right StepFine (inside_steps_by name_steps (here seen x) (is_info x) x) (top_steps_by name_steps (next seen x) xs) h.1 in
    let z = go seen (is_type (codes "hdrl") x.chunk) refl inside (top_split (next seen x) xs more) in
    ((h.0, z.0), z.1)
  where
    go : (s t : Bool) → is_type (codes "hdrl") x.chunk ≡ t → AllFine (inside_steps_by name_steps (not s && t) (is_info x) x) → AllFine (top_steps_by flat_steps (s || t) xs) × Strls (s || t) xs
        → AllFine (inside_steps_by flat_steps (not s && t) (is_info x) x ++ top_steps_by flat_steps (s || t) xs) × Strls s (x ∷ xs)
    go true t e inside more =
        (all_both StepFine (inside_steps_by flat_steps false (is_info x) x) (top_steps_by flat_steps true xs) (subst AllFine (inside_other (is_info x) x) inside) more.0, tt)
    go false true e inside more =
        let z = hdrl_split x inside in
        (all_both StepFine (hdrl_steps_by flat_steps x) (top_steps_by flat_steps true xs) z.0 more.0, subst (AllByRecursion NamesSmall) (sym (strls_here x xs e)) z.1)
    go false false e inside more =
        (all_both StepFine (inside_steps_by flat_steps false (is_info x) x) (top_steps_by flat_steps false xs) (subst AllFine (inside_other (is_info x) x) inside) more.0, subst (AllByRecursion NamesSmall) (sym (strls_further x xs e)) more.1)

top_join : (seen : Bool) (xs : List Stood) → AllFine (top_steps_by flat_steps seen xs) → Strls seen xs → AllFine (top_steps_by name_steps seen xs)
top_join seen [] h s = tt
top_join seen (x ∷ xs) h s =
    let inside = all_left StepFine (inside_steps_by flat_steps (here seen x) (is_info x) x) (top_steps_by flat_steps (next seen x) xs) h.1 in
    let more = all_right StepFine (inside_steps_by flat_steps (here seen x) (is_info x) x) (top_steps_by flat_steps (next seen x) xs) h.1 in
    (h.0, go seen (is_type (codes "hdrl") x.chunk) refl inside s (λ k. top_join (next seen x) xs more k))
  where
    go : (w t : Bool) → is_type (codes "hdrl") x.chunk ≡ t → AllFine (inside_steps_by flat_steps (not w && t) (is_info x) x) → Strls w (x ∷ xs) → (Strls (w || t) xs → AllFine (top_steps_by name_steps (w || t) xs))
        → AllFine (inside_steps_by name_steps (not w && t) (is_info x) x ++ top_steps_by name_steps (w || t) xs)
    go true t e inside s again = all_both StepFine (inside_steps_by name_steps false (is_info x) x) (top_steps_by name_steps true xs) (subst AllFine (sym (inside_other (is_info x) x)) inside) (again tt)
    go false true e inside s again = all_both StepFine (hdrl_steps_by name_steps x) (top_steps_by name_steps true xs) (hdrl_join x inside (subst (AllByRecursion NamesSmall) (strls_here x xs e) s)) (again tt)
    go false false e inside s again =
        all_both StepFine (inside_steps_by name_steps false (is_info x) x) (top_steps_by name_steps false xs) (subst AllFine (sym (inside_other (is_info x) x)) inside) (again (subst (AllByRecursion NamesSmall) (strls_further x xs e) s))

top_same : (seen : Bool) (xs : List Stood) → parts_met (top_steps_by name_steps seen xs) ≡ parts_met (top_steps_by flat_steps seen xs)
top_same seen [] = refl
top_same seen (x ∷ xs) =
    omega (
      arith,
      inside (here seen x),
      top_same (next seen x) xs,
      parts_append (inside_steps_by name_steps (here seen x) (is_info x) x) (top_steps_by name_steps (next seen x) xs),
      parts_append (inside_steps_by flat_steps (here seen x) (is_info x) x) (top_steps_by flat_steps (next seen x) xs),
    )
  where
    inside : (t : Bool) → parts_met (inside_steps_by name_steps t (is_info x) x) ≡ parts_met (inside_steps_by flat_steps t (is_info x) x)
    inside true = hdrl_same x
    inside false = ap parts_met (inside_other (is_info x) x)

-- ---- all forms

forms_split : (cs : List Chunk) (left : List ℕ) → AllFine (form_steps_by name_steps (stood 0 cs)) → AllFine (form_steps_by flat_steps (stood 0 cs)) × AllByRecursion NamesSmall (strls (avi_from cs left))
unfolding chunks read
forms_split [] left h = (tt, tt)
forms_split (c ∷ cs) left h =
    let x : Stood = record { at = 0; chunk = bare c } in
    let more = flat_map further_steps (stood (0 + length (spell c)) cs) in
    let one = all_left StepFine (first_steps_by name_steps x) more h in
    let z = top_split false (kids x) (all_left StepFine (top_steps_by name_steps false (kids x)) (list_end x ∷ []) one.1) in (
      all_both StepFine (first_steps_by flat_steps x) more (one.0, all_both StepFine (top_steps_by flat_steps false (kids x)) (list_end x ∷ []) z.0 (all_right StepFine (top_steps_by name_steps false (kids x)) (list_end x ∷ []) one.1))
          (all_right StepFine (first_steps_by name_steps x) more h),
      z.1,
    )

forms_join : (cs : List Chunk) (left : List ℕ) → AllFine (form_steps_by flat_steps (stood 0 cs)) → AllByRecursion NamesSmall (strls (avi_from cs left)) → AllFine (form_steps_by name_steps (stood 0 cs))
unfolding chunks read
forms_join [] left h s = tt
forms_join (c ∷ cs) left h s =
    let x : Stood = record { at = 0; chunk = bare c } in
    let more = flat_map further_steps (stood (0 + length (spell c)) cs) in
    let one = all_left StepFine (first_steps_by flat_steps x) more h in
    let z = top_join false (kids x) (all_left StepFine (top_steps_by flat_steps false (kids x)) (list_end x ∷ []) one.1) s in
    all_both StepFine (first_steps_by name_steps x) more (one.0, all_both StepFine (top_steps_by name_steps false (kids x)) (list_end x ∷ []) z (all_right StepFine (top_steps_by flat_steps false (kids x)) (list_end x ∷ []) one.1))
    (all_right StepFine (first_steps_by flat_steps x) more h)

forms_same : (cs : List Chunk) → parts_met (form_steps_by name_steps (stood 0 cs)) ≡ parts_met (form_steps_by flat_steps (stood 0 cs))
forms_same [] = refl
forms_same (c ∷ cs) =
    let x : Stood = record { at = 0; chunk = bare c } in
    let more = flat_map further_steps (stood (0 + length (spell c)) cs) in
    omega (
      arith,
      top_same false (kids x),
      parts_append (first_steps_by name_steps x) more,
      parts_append (first_steps_by flat_steps x) more,
      parts_append (top_steps_by name_steps false (kids x)) (list_end x ∷ []),
      parts_append (top_steps_by flat_steps false (kids x)) (list_end x ∷ []),
    )

-- ---- a file

module _ (b : List ℕ) where
  abbrev forms_end : List Step
  forms_end = end_at (length (spell_all (forms b).chunks)) (forms b).stop ∷ []

  abbrev named_forms : List Step
  named_forms = form_steps_by name_steps (stood 0 (forms b).chunks)

  abbrev flat_forms : List Step
  flat_forms = form_steps_by flat_steps (stood 0 (forms b).chunks)

  same_count : parts_met (named_reading b) ≡ parts_met (reading b)
  same_count = omega (arith, forms_same (forms b).chunks, parts_append named_forms forms_end, parts_append flat_forms forms_end)

  abbrev more_tests : List Test
  more_tests =
      Rattle.avi_model.specs.Why.list_tests (avi_of b)
      ++ (flat_map (Rattle.avi_model.specs.Why.stream_tests b) (Rattle.avi_model.specs.Index.streams b)
      ++ ((Rattle.std.specs.Prelude.nat_lt part_limit (length (Rattle.avi_model.specs.Index.indexes b)), Rattle.part_tree.specs.declared.why.Why.TheVariants.TooManyParts)
      ∷ (Rattle.avi_model.specs.Why.overlap_tests 0 (Rattle.avi_model.specs.Support.by_place (Rattle.avi_model.specs.Index.indexes b))
      ++ (flat_map (Rattle.avi_model.specs.Why.standard_tests b) (Rattle.avi_model.specs.Support.by_place (Rattle.avi_model.specs.Index.indexes b))
      ++ (flat_map (Rattle.avi_model.specs.Why.base_tests b) (Rattle.avi_model.specs.Index.olds b)
      ++ flat_map (Rattle.avi_model.specs.Why.old_tests (Rattle.avi_model.specs.Index.base b) (Rattle.avi_model.specs.Avi.first_movi (avi_of b)) (Rattle.avi_model.specs.Index.indexes b)) (Rattle.avi_model.specs.Index.olds b))))))

  steps_of : (ss : List Step) → AllFalse (tests_of ss b) → AllFalse (steps_tests 0 ss)
  steps_of ss h = all_left (λ (t : Test). t.0 ≡ false) (steps_tests 0 ss) more_tests h.1

  other_steps : (ss new : List Step) → AllFalse (tests_of ss b) → AllFalse (steps_tests 0 new) → AllFalse (tests_of new b)
  other_steps ss new h k = (h.0, all_both (λ (t : Test). t.0 ≡ false) (steps_tests 0 new) more_tests k (all_right (λ (t : Test). t.0 ≡ false) (steps_tests 0 ss) more_tests h.1))

  supported_names : AllFalse (tests_of (named_reading b) b) → SupportedNames b
  supported_names h =
      let met = steps_fine 0 (named_reading b) (steps_of (named_reading b) h) in
      let z = forms_split (forms b).chunks (forms b).left (all_left StepFine named_forms forms_end met.0) in
      let fine : AllFine (reading b) = all_both StepFine flat_forms forms_end z.0 (all_right StepFine named_forms forms_end met.0) in
      record { file = supported_from b (other_steps (named_reading b) (reading b) h (fine_steps 0 (reading b) fine (omega (arith, met.1 (omega arith), same_count)))); names_small = z.1 }

  names_supported : SupportedNames b → AllFalse (tests_of (named_reading b) b)
  names_supported s =
      let h = from_supported b s.file in
      let met = steps_fine 0 (reading b) (steps_of (reading b) h) in
      let z = forms_join (forms b).chunks (forms b).left (all_left StepFine flat_forms forms_end met.0) s.names_small in
      let fine : AllFine (named_reading b) = all_both StepFine named_forms forms_end z (all_right StepFine flat_forms forms_end met.0) in
      other_steps (reading b) (named_reading b) h (fine_steps 0 (named_reading b) fine (omega (arith, met.1 (omega arith), same_count)))

-- A file whose streams have names is supported exactly where no test of the reading order holds.
pub names_exact : (b : List ℕ) → (why_named b ≡ None → SupportedNames b) × (SupportedNames b → why_named b ≡ None)
names_exact b = ((λ e. supported_names b (first_none (tests_of (named_reading b) b) e)), (λ s. none_first (tests_of (named_reading b) b) (names_supported b s)))
