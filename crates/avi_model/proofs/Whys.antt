-- A file is supported exactly where no test of the reading order holds.
use Rattle.std.proofs.Common.{◌≡◌, ℕ, suc, ◌+◌, ◌≤◌, Bool, true, false, cond, ltb, List, [], ◌∷◌, ◌++◌, length, drop, refl, sym, ap, subst, ◌∙◌, arith}
use Rattle.std.specs.Prelude.{◌&&◌, ◌||◌, not, codes}
use Rattle.std.specs.List.{flat_map, AllByRecursion}
use Rattle.std.proofs.lemmas.Bool.{ltb-false, le-ltb, leb-false, lt-leb}
use Rattle.container_model.specs.Chunk.{Chunk, Stop, ends, read, chunks, spell}
use Rattle.container_model.specs.Stood.{Stood, bare, stood, only, first_of}
use Rattle.carrier_model.specs.Info.{is_type, list_run}
use Rattle.avi_model.specs.Avi.{forms, Avi, avi_of, form_of, kids, top, others_at, hdrls, strls, first_movi}
use Rattle.avi_model.specs.Support.{infos, ListEnds, opened, count_kids, parts, part_limit, list_limit}
use Rattle.avi_model.specs.Reading.{Step, form_at, part_at, end_at, list_end, part_of, flat_steps, stream_steps, hdrl_steps, inside_steps, is_info, top_steps, first_steps, further_steps, form_steps, parts_met}
use Rattle.container_model.specs.Tests.{ended}
use Rattle.container_model.proofs.Tests.{AllFalse, stop_ends}
use Rattle.avi_model.specs.Why.{Test, steps_tests}
use Rattle.avi_model.proofs.Among.{Among, all_among, among_all, among_flat, flat_among}
use Rattle.avi_model.proofs.Levels.{type_one}
use Rattle.avi_model.proofs.Sound.{all_left, all_right}
use Rattle.avi_model.proofs.Lists.{all_both}

-- ---- tests

pub flat_false : {X : Type 0} (g : X → List Test) (xs : List X) → AllFalse (flat_map g xs) → (x : X) → Among x xs → AllFalse (g x)
flat_false g xs h x i = all_among (λ t. t.0 ≡ false) (g x) (λ t j. among_all (λ t. t.0 ≡ false) (flat_map g xs) h t (flat_among g xs x t i j))

pub false_flat : {X : Type 0} (g : X → List Test) (xs : List X) → ((x : X) → Among x xs → AllFalse (g x)) → AllFalse (flat_map g xs)
false_flat g xs h = all_among (λ t. t.0 ≡ false) (flat_map g xs) (λ t i. let m = among_flat g xs t i in among_all (λ t. t.0 ≡ false) (g m.from) (h m.from m.from_among) t m.in_it)

pub not_is : (b : Bool) → not b ≡ false → b ≡ true
not_is true e = refl
not_is false e = absurd cc

pub is_not : (b : Bool) → b ≡ true → not b ≡ false
is_not true e = refl
is_not false e = absurd cc

-- a test that is guarded
pub guarded : (a b : Bool) → (not a && not b) ≡ false → a ≡ false → b ≡ true
guarded true b e i = absurd cc
guarded false true e i = refl
guarded false false e i = absurd cc

pub guard : (a b : Bool) → (a ≡ false → b ≡ true) → (not a && not b) ≡ false
guard true b h = refl
guard false b h = rw (h refl) refl

-- ---- the steps of reading

abbrev pub StepFine : Step → Type 0
StepFine (form_at x) = 4 ≤ length x.chunk.body
StepFine (part_at info x) = info ≡ true → length x.chunk.body ≤ list_limit
StepFine (end_at at stop) = stop ≡ ends

abbrev pub AllFine : List Step → Type 0
AllFine ss = AllByRecursion StepFine ss

small_false : (b : Bool) (n : ℕ) → (b && ltb list_limit n) ≡ false → b ≡ true → n ≤ list_limit
small_false true n e i = ltb-false list_limit n e
small_false false n e i = absurd cc

false_small : (b : Bool) (n : ℕ) → (b ≡ true → n ≤ list_limit) → (b && ltb list_limit n) ≡ false
false_small true n h = le-ltb list_limit n (h refl)
false_small false n h = refl

pub steps_fine : (met : ℕ) (ss : List Step) → AllFalse (steps_tests met ss) → AllFine ss × (met ≤ part_limit → met + parts_met ss ≤ part_limit)
steps_fine met [] h = (tt, λ l. omega arith)
steps_fine met (form_at x ∷ ss) h =
    let z : met + 0 ≡ met = omega arith in
    let again = steps_fine (met + 0) ss h.1 in
    ((ltb-false (length x.chunk.body) 4 h.0, again.0), λ l. omega (arith, again.1 (omega arith)))
steps_fine met (part_at info x ∷ ss) h =
    let again = steps_fine (met + 1) ss h.1.1 in
    let few = leb-false part_limit met h.0 in
    ((small_false info (length x.chunk.body) h.1.0, again.0), λ l. omega (arith, again.1 (omega (arith, few))))
steps_fine met (end_at at stop ∷ ss) h =
    let again = steps_fine (met + 0) ss h.1 in
    ((stop_ends stop h.0, again.0), λ l. omega (arith, again.1 (omega arith)))

pub fine_steps : (met : ℕ) (ss : List Step) → AllFine ss → met + parts_met ss ≤ part_limit → AllFalse (steps_tests met ss)
fine_steps met [] h l = tt
fine_steps met (form_at x ∷ ss) h l = (le-ltb (length x.chunk.body) 4 h.0, fine_steps (met + 0) ss h.1 (omega arith))
fine_steps met (part_at info x ∷ ss) h l = (lt-leb part_limit met (omega arith), (false_small info (length x.chunk.body) h.0, fine_steps (met + 1) ss h.1 (omega arith)))
fine_steps met (end_at at stop ∷ ss) h l = (ap (λ (s : Stop). not (ended s)) h.0, fine_steps (met + 0) ss h.1 (omega arith))

-- ---- lists

pub parts_append : (a b : List Step) → parts_met (a ++ b) ≡ parts_met a + parts_met b
parts_append [] b = omega arith
parts_append (s ∷ a) b = omega (arith, parts_append a b)

pub kids_count : (xs : List Stood) → parts_met (flat_map part_of xs) ≡ length xs
kids_count [] = refl
kids_count (x ∷ xs) = omega (arith, kids_count xs)

kids_fine : (xs : List Stood) → AllFine (flat_map part_of xs)
kids_fine [] = tt
kids_fine (x ∷ xs) = ((λ e. absurd cc), kids_fine xs)

pub stood_length : (at : ℕ) (cs : List Chunk) → length (stood at cs) ≡ length cs
stood_length at [] = refl
stood_length at (c ∷ cs) = ap suc (stood_length (at + length (spell c)) cs)

count_append : (a b : List Stood) → count_kids (a ++ b) ≡ count_kids a + count_kids b
count_append [] b = omega arith
count_append (x ∷ a) b = omega (arith, count_append a b)

-- what is met in a list in which nothing is opened
flat_ends : (x : Stood) → AllFine (flat_steps x) → ListEnds x
flat_ends x h = (all_right StepFine (flat_map part_of (kids x)) (list_end x ∷ []) h).0

ends_flat : (x : Stood) → ListEnds x → AllFine (flat_steps x)
ends_flat x h = all_both StepFine (flat_map part_of (kids x)) (list_end x ∷ []) (kids_fine (kids x)) (h, tt)

pub flat_count : (x : Stood) → parts_met (flat_steps x) ≡ length (list_run x.chunk).chunks
flat_count x = omega (arith, parts_append (flat_map part_of (kids x)) (list_end x ∷ []), kids_count (kids x), stood_length (x.at + 12) (list_run x.chunk).chunks)

-- the chunks of hdrl
streams_end : (xs : List Stood) → AllFine (flat_map stream_steps xs) → AllByRecursion ListEnds (only (is_type (codes "strl")) xs)
streams_end [] h = tt
streams_end (x ∷ xs) h = go (is_type (codes "strl") x.chunk) (all_left StepFine (stream_steps x) (flat_map stream_steps xs) h).1 (streams_end xs (all_right StepFine (stream_steps x) (flat_map stream_steps xs) h))
  where
    go : (t : Bool) → AllFine (cond t (flat_steps x) []) → AllByRecursion ListEnds (only (is_type (codes "strl")) xs) → AllByRecursion ListEnds (cond t (x ∷ only (is_type (codes "strl")) xs) (only (is_type (codes "strl")) xs))
    go true h g = (flat_ends x h, g)
    go false h g = g

end_streams : (xs : List Stood) → AllByRecursion ListEnds (only (is_type (codes "strl")) xs) → AllFine (flat_map stream_steps xs)
end_streams [] h = tt
end_streams (x ∷ xs) h = go (is_type (codes "strl") x.chunk) h (λ g. end_streams xs g)
  where
    go : (t : Bool) → AllByRecursion ListEnds (cond t (x ∷ only (is_type (codes "strl")) xs) (only (is_type (codes "strl")) xs)) → (AllByRecursion ListEnds (only (is_type (codes "strl")) xs) → AllFine (flat_map stream_steps xs)) → AllFine ((part_at false x ∷ cond t (flat_steps x) []) ++ flat_map stream_steps xs)
    go true h again = ((λ e. absurd cc), all_both StepFine (flat_steps x) (flat_map stream_steps xs) (ends_flat x h.0) (again h.1))
    go false h again = ((λ e. absurd cc), again h)

streams_count : (xs : List Stood) → parts_met (flat_map stream_steps xs) ≡ length xs + count_kids (only (is_type (codes "strl")) xs)
streams_count [] = refl
streams_count (x ∷ xs) = go (is_type (codes "strl") x.chunk) (streams_count xs)
  where
    go : (t : Bool) → parts_met (flat_map stream_steps xs) ≡ length xs + count_kids (only (is_type (codes "strl")) xs)
        → parts_met ((part_at false x ∷ cond t (flat_steps x) []) ++ flat_map stream_steps xs) ≡ suc (length xs) + count_kids (cond t (x ∷ only (is_type (codes "strl")) xs) (only (is_type (codes "strl")) xs))
    go true e = omega (arith, e, parts_append (flat_steps x) (flat_map stream_steps xs), flat_count x)
    go false e = omega (arith, e)

hdrl_count : (x : Stood) → parts_met (hdrl_steps x) ≡ length (list_run x.chunk).chunks + count_kids (only (is_type (codes "strl")) (kids x))
hdrl_count x = omega (arith, parts_append (flat_map stream_steps (kids x)) (list_end x ∷ []), streams_count (kids x), stood_length (x.at + 12) (list_run x.chunk).chunks)

-- ---- the first form

abbrev firsts : Bool → List Stood → List Stood
firsts true xs = []
firsts false xs = first_of (only (is_type (codes "hdrl")) xs)

abbrev strls_in : List Stood → List Stood
strls_in hs = only (is_type (codes "strl")) (flat_map kids hs)

abbrev infos_in : List Stood → List Stood
infos_in xs = only (is_type (codes "INFO")) xs

abbrev Small : List Stood → Type 0
Small xs = AllByRecursion (λ x. length x.chunk.body ≤ list_limit) (infos_in xs)

record TopFine (seen : Bool) (xs : List Stood) : Type 0 where
  small : Small xs
  hdrls_end : AllByRecursion ListEnds (firsts seen xs)
  strls_end : AllByRecursion ListEnds (strls_in (firsts seen xs))
  infos_end : AllByRecursion ListEnds (infos_in xs)

one_list : (x : Stood) → is_type (codes "hdrl") x.chunk ≡ true → is_type (codes "INFO") x.chunk ≡ false
one_list x h = go (is_type (codes "INFO") x.chunk) refl
  where
    go : (t : Bool) → is_type (codes "INFO") x.chunk ≡ t → t ≡ false
    go true e = absurd (type_one (codes "hdrl") (codes "INFO") x refl h e)
    go false e = refl

strls_one : (x : Stood) → strls_in (x ∷ []) ≡ only (is_type (codes "strl")) (kids x)
strls_one x = ap (only (is_type (codes "strl"))) (Rattle.std.proofs.lemmas.List.append-nil (kids x))

-- which chunk is opened as hdrl, and which as a list of fields
data Case (seen : Bool) (x : Stood) (xs : List Stood) : Type 0 where
  opens : (not seen && is_type (codes "hdrl") x.chunk) ≡ true → is_info x ≡ false → firsts seen (x ∷ xs) ≡ x ∷ [] → (seen || is_type (codes "hdrl") x.chunk) ≡ true → infos_in (x ∷ xs) ≡ infos_in xs → Case seen x xs
  fields : (not seen && is_type (codes "hdrl") x.chunk) ≡ false → is_info x ≡ true → firsts seen (x ∷ xs) ≡ firsts (seen || is_type (codes "hdrl") x.chunk) xs → infos_in (x ∷ xs) ≡ x ∷ infos_in xs → Case seen x xs
  neither : (not seen && is_type (codes "hdrl") x.chunk) ≡ false → is_info x ≡ false → firsts seen (x ∷ xs) ≡ firsts (seen || is_type (codes "hdrl") x.chunk) xs → infos_in (x ∷ xs) ≡ infos_in xs → Case seen x xs

case_of : (seen : Bool) (x : Stood) (xs : List Stood) → Case seen x xs
case_of seen x xs = go seen (is_type (codes "hdrl") x.chunk) (is_info x) refl refl
  where
    info_yes : is_info x ≡ true → infos_in (x ∷ xs) ≡ x ∷ infos_in xs
    info_yes e = ap (λ (b : Bool). cond b (x ∷ infos_in xs) (infos_in xs)) e

    info_not : is_info x ≡ false → infos_in (x ∷ xs) ≡ infos_in xs
    info_not e = ap (λ (b : Bool). cond b (x ∷ infos_in xs) (infos_in xs)) e

    skip : is_type (codes "hdrl") x.chunk ≡ false → firsts false (x ∷ xs) ≡ firsts false xs
    skip e = ap (λ (b : Bool). first_of (cond b (x ∷ only (is_type (codes "hdrl")) xs) (only (is_type (codes "hdrl")) xs))) e

    go : (seen h i : Bool) → is_type (codes "hdrl") x.chunk ≡ h → is_info x ≡ i → Case seen x xs
    go true h true e d = fields refl d refl (info_yes d)
    go true h false e d = neither refl d refl (info_not d)
    go false true i e d =
        let n = one_list x e in
        opens e n (ap (λ (b : Bool). first_of (cond b (x ∷ only (is_type (codes "hdrl")) xs) (only (is_type (codes "hdrl")) xs))) e) e (info_not n)
    go false false true e d = fields e d (skip e ∙ ap (λ (b : Bool). firsts b xs) (sym e)) (info_yes d)
    go false false false e d = neither e d (skip e ∙ ap (λ (b : Bool). firsts b xs) (sym e)) (info_not d)

abbrev here : Bool → Stood → Bool
here seen x = not seen && is_type (codes "hdrl") x.chunk

abbrev next : Bool → Stood → Bool
next seen x = seen || is_type (codes "hdrl") x.chunk

top_from : (seen : Bool) (xs : List Stood) → AllFine (top_steps seen xs) → TopFine seen xs
top_from seen [] h = record { small = tt; hdrls_end = none seen; strls_end = tt2 seen; infos_end = tt }
  where
    none : (seen : Bool) → AllByRecursion ListEnds (firsts seen [])
    none true = tt
    none false = tt

    tt2 : (seen : Bool) → AllByRecursion ListEnds (strls_in (firsts seen []))
    tt2 true = tt
    tt2 false = tt
top_from seen (x ∷ xs) h = go (case_of seen x xs) (all_left StepFine (inside_steps (here seen x) (is_info x) x) (top_steps (next seen x) xs) h.1) (top_from (next seen x) xs (all_right StepFine (inside_steps (here seen x) (is_info x) x) (top_steps (next seen x) xs) h.1)) h.0
  where
    go : Case seen x xs → AllFine (inside_steps (here seen x) (is_info x) x) → TopFine (next seen x) xs → (is_info x ≡ true → length x.chunk.body ≤ list_limit) → TopFine seen (x ∷ xs)
    go (opens a n f sn inf) inside again small =
        let in_ : AllFine (hdrl_steps x) = subst (λ (b : Bool). AllFine (inside_steps b (is_info x) x)) a inside in
        let more : TopFine true xs = subst (λ (b : Bool). TopFine b xs) sn again in
        record {
          small = subst (λ (ys : List Stood). AllByRecursion (λ x. length x.chunk.body ≤ list_limit) ys) (sym inf) more.small;
          hdrls_end = subst (AllByRecursion ListEnds) (sym f) ((all_right StepFine (flat_map stream_steps (kids x)) (list_end x ∷ []) in_).0, tt);
          strls_end = subst (λ (ys : List Stood). AllByRecursion ListEnds (strls_in ys)) (sym f) (subst (AllByRecursion ListEnds) (sym (strls_one x)) (streams_end (kids x) (all_left StepFine (flat_map stream_steps (kids x)) (list_end x ∷ []) in_)));
          infos_end = subst (AllByRecursion ListEnds) (sym inf) more.infos_end;
        }
    go (fields a i f inf) inside again small =
        let in_ : AllFine (flat_steps x) = subst (λ (c : Bool). AllFine (inside_steps false c x)) i (subst (λ (b : Bool). AllFine (inside_steps b (is_info x) x)) a inside) in
        record {
          small = subst (λ (ys : List Stood). AllByRecursion (λ x. length x.chunk.body ≤ list_limit) ys) (sym inf) (small i, again.small);
          hdrls_end = subst (AllByRecursion ListEnds) (sym f) again.hdrls_end;
          strls_end = subst (λ (ys : List Stood). AllByRecursion ListEnds (strls_in ys)) (sym f) again.strls_end;
          infos_end = subst (AllByRecursion ListEnds) (sym inf) (flat_ends x in_, again.infos_end);
        }
    go (neither a i f inf) inside again small = record {
      small = subst (λ (ys : List Stood). AllByRecursion (λ x. length x.chunk.body ≤ list_limit) ys) (sym inf) again.small;
      hdrls_end = subst (AllByRecursion ListEnds) (sym f) again.hdrls_end;
      strls_end = subst (λ (ys : List Stood). AllByRecursion ListEnds (strls_in ys)) (sym f) again.strls_end;
      infos_end = subst (AllByRecursion ListEnds) (sym inf) again.infos_end;
    }

from_top : (seen : Bool) (xs : List Stood) → TopFine seen xs → AllFine (top_steps seen xs)
from_top seen [] h = tt
from_top seen (x ∷ xs) h = go (case_of seen x xs) (λ g. from_top (next seen x) xs g)
  where
    join : (is_info x ≡ true → length x.chunk.body ≤ list_limit) → AllFine (inside_steps (here seen x) (is_info x) x) → AllFine (top_steps (next seen x) xs) → AllFine (top_steps seen (x ∷ xs))
    join small inside more = (small, all_both StepFine (inside_steps (here seen x) (is_info x) x) (top_steps (next seen x) xs) inside more)

    go : Case seen x xs → (TopFine (next seen x) xs → AllFine (top_steps (next seen x) xs)) → AllFine (top_steps seen (x ∷ xs))
    go (opens a n f sn inf) again =
        let hs : AllByRecursion ListEnds (x ∷ []) = subst (AllByRecursion ListEnds) f h.hdrls_end in
        let ss : AllByRecursion ListEnds (only (is_type (codes "strl")) (kids x)) = subst (AllByRecursion ListEnds) (strls_one x) (subst (λ (ys : List Stood). AllByRecursion ListEnds (strls_in ys)) f h.strls_end) in
        let in_ : AllFine (hdrl_steps x) = all_both StepFine (flat_map stream_steps (kids x)) (list_end x ∷ []) (end_streams (kids x) ss) (hs.0, tt) in
        let more : TopFine true xs = record {
          small = subst (λ (ys : List Stood). AllByRecursion (λ x. length x.chunk.body ≤ list_limit) ys) inf h.small;
          hdrls_end = tt;
          strls_end = tt;
          infos_end = subst (AllByRecursion ListEnds) inf h.infos_end;
        } in
        join (λ i. absurd cc) (subst (λ (b : Bool). AllFine (inside_steps b (is_info x) x)) (sym a) in_) (again (subst (λ (b : Bool). TopFine b xs) (sym sn) more))
    go (fields a i f inf) again =
        let small : AllByRecursion (λ x. length x.chunk.body ≤ list_limit) (x ∷ infos_in xs) = subst (λ (ys : List Stood). AllByRecursion (λ x. length x.chunk.body ≤ list_limit) ys) inf h.small in
        let end_ : AllByRecursion ListEnds (x ∷ infos_in xs) = subst (AllByRecursion ListEnds) inf h.infos_end in
        let in_ : AllFine (inside_steps (here seen x) (is_info x) x) = subst (λ (b : Bool). AllFine (inside_steps b (is_info x) x)) (sym a) (subst (λ (c : Bool). AllFine (inside_steps false c x)) (sym i) (ends_flat x end_.0)) in
        join (λ j. small.0) in_ (again (record { small = small.1; hdrls_end = subst (AllByRecursion ListEnds) f h.hdrls_end; strls_end = subst (λ (ys : List Stood). AllByRecursion ListEnds (strls_in ys)) f h.strls_end; infos_end = end_.1 }))
    go (neither a i f inf) again =
        let in_ : AllFine (inside_steps (here seen x) (is_info x) x) = subst (λ (b : Bool). AllFine (inside_steps b (is_info x) x)) (sym a) (subst (λ (c : Bool). AllFine (inside_steps false c x)) (sym i) tt) in
        join (λ j. absurd cc) in_
        (again (record {
          small = subst (λ (ys : List Stood). AllByRecursion (λ x. length x.chunk.body ≤ list_limit) ys) inf h.small;
          hdrls_end = subst (AllByRecursion ListEnds) f h.hdrls_end;
          strls_end = subst (λ (ys : List Stood). AllByRecursion ListEnds (strls_in ys)) f h.strls_end;
          infos_end = subst (AllByRecursion ListEnds) inf h.infos_end;
        }))

top_count : (seen : Bool) (xs : List Stood) → parts_met (top_steps seen xs) ≡ length xs + count_kids (firsts seen xs) + count_kids (strls_in (firsts seen xs)) + count_kids (infos_in xs)
top_count seen [] = go seen
  where
    go : (seen : Bool) → 0 ≡ 0 + count_kids (firsts seen []) + count_kids (strls_in (firsts seen [])) + 0
    go true = refl
    go false = refl
top_count seen (x ∷ xs) = go (case_of seen x xs) (top_count (next seen x) xs)
  where
    inside : List Step
    inside = inside_steps (here seen x) (is_info x) x

    whole : parts_met (top_steps seen (x ∷ xs)) ≡ 1 + (parts_met (inside_steps (here seen x) (is_info x) x) + parts_met (top_steps (next seen x) xs))
    whole = ap (λ (k : ℕ). 1 + k) (parts_append (inside_steps (here seen x) (is_info x) x) (top_steps (next seen x) xs))

    go : Case seen x xs → parts_met (top_steps (next seen x) xs) ≡ length xs + count_kids (firsts (next seen x) xs) + count_kids (strls_in (firsts (next seen x) xs)) + count_kids (infos_in xs)
        → parts_met (top_steps seen (x ∷ xs)) ≡ length (x ∷ xs) + count_kids (firsts seen (x ∷ xs)) + count_kids (strls_in (firsts seen (x ∷ xs))) + count_kids (infos_in (x ∷ xs))
    go (opens a n f sn inf) again =
        let more : parts_met (top_steps (next seen x) xs) ≡ length xs + 0 + 0 + count_kids (infos_in xs) = again ∙ ap (λ (b : Bool). length xs + count_kids (firsts b xs) + count_kids (strls_in (firsts b xs)) + count_kids (infos_in xs)) sn in
        let in_ : parts_met (inside_steps (here seen x) (is_info x) x) ≡ length (list_run x.chunk).chunks + count_kids (only (is_type (codes "strl")) (kids x)) = ap (λ (b : Bool). parts_met (inside_steps b (is_info x) x)) a ∙ hdrl_count x in
        let hs : count_kids (firsts seen (x ∷ xs)) ≡ length (list_run x.chunk).chunks + 0 = ap count_kids f in
        let ss : count_kids (strls_in (firsts seen (x ∷ xs))) ≡ count_kids (only (is_type (codes "strl")) (kids x)) = ap (λ (ys : List Stood). count_kids (strls_in ys)) f ∙ ap count_kids (strls_one x) in
        omega (arith, whole, more, in_, hs, ss, ap count_kids inf)
    go (fields a i f inf) again =
        let in_ : parts_met (inside_steps (here seen x) (is_info x) x) ≡ length (list_run x.chunk).chunks = ap (λ (b : Bool). parts_met (inside_steps b (is_info x) x)) a ∙ ap (λ (c : Bool). parts_met (inside_steps false c x)) i ∙ flat_count x in
        let hs : count_kids (firsts seen (x ∷ xs)) ≡ count_kids (firsts (next seen x) xs) = ap count_kids f in
        let ss : count_kids (strls_in (firsts seen (x ∷ xs))) ≡ count_kids (strls_in (firsts (next seen x) xs)) = ap (λ (ys : List Stood). count_kids (strls_in ys)) f in
        let is_ : count_kids (infos_in (x ∷ xs)) ≡ length (list_run x.chunk).chunks + count_kids (infos_in xs) = ap count_kids inf in
        omega (arith, whole, again, in_, hs, ss, is_)
    go (neither a i f inf) again =
        let in_ : parts_met (inside_steps (here seen x) (is_info x) x) ≡ 0 = ap (λ (b : Bool). parts_met (inside_steps b (is_info x) x)) a ∙ ap (λ (c : Bool). parts_met (inside_steps false c x)) i in
        let hs : count_kids (firsts seen (x ∷ xs)) ≡ count_kids (firsts (next seen x) xs) = ap count_kids f in
        let ss : count_kids (strls_in (firsts seen (x ∷ xs))) ≡ count_kids (strls_in (firsts (next seen x) xs)) = ap (λ (ys : List Stood). count_kids (strls_in ys)) f in
        omega (arith, whole, again, in_, hs, ss, ap count_kids inf)

-- ---- all forms

pub record FormsFine (cs : List Chunk) (a : Avi) : Type 0 where
  pub long : AllByRecursion (λ c. 4 ≤ length c.body) cs
  pub read_on : AllByRecursion (λ c. (list_run c).stop ≡ ends) cs
  pub lists_end : AllByRecursion ListEnds (opened a)
  pub small : AllByRecursion (λ x. length x.chunk.body ≤ list_limit) (infos a)

-- the further forms
further_from : (at : ℕ) (cs : List Chunk) → AllFine (flat_map further_steps (stood at cs)) → AllByRecursion (λ c. 4 ≤ length c.body) cs × AllByRecursion (λ c. (list_run c).stop ≡ ends) cs
further_from at [] h = (tt, tt)
further_from at (c ∷ cs) h =
    let x : Stood = record { at = at; chunk = bare c } in
    let again = further_from (at + length (spell c)) cs (all_right StepFine (further_steps x) (flat_map further_steps (stood (at + length (spell c)) cs)) h) in
    let one = all_left StepFine (further_steps x) (flat_map further_steps (stood (at + length (spell c)) cs)) h in
    ((one.0, again.0), (flat_ends x one.1, again.1))

from_further : (at : ℕ) (cs : List Chunk) → AllByRecursion (λ c. 4 ≤ length c.body) cs → AllByRecursion (λ c. (list_run c).stop ≡ ends) cs → AllFine (flat_map further_steps (stood at cs))
from_further at [] l r = tt
from_further at (c ∷ cs) l r =
    let x : Stood = record { at = at; chunk = bare c } in
    all_both StepFine (further_steps x) (flat_map further_steps (stood (at + length (spell c)) cs)) (l.0, ends_flat x r.0) (from_further (at + length (spell c)) cs l.1 r.1)

further_count : (at q : ℕ) (cs : List Chunk) → parts_met (flat_map further_steps (stood at cs)) ≡ count_kids (stood q cs)
further_count at q [] = refl
further_count at q (c ∷ cs) =
    let x : Stood = record { at = at; chunk = bare c } in
    omega (arith, parts_append (further_steps x) (flat_map further_steps (stood (at + length (spell c)) cs)), flat_count x, further_count (at + length (spell c)) (q + length (spell c)) cs)

abbrev pub avi_from : List Chunk → List ℕ → Avi
avi_from cs left = record {
  children = (chunks Rattle.container_model.specs.Sizes.riff_front Rattle.container_model.specs.Sizes.plain (drop 4 (Rattle.avi_model.specs.Avi.first_body cs))).chunks;
  left = (chunks Rattle.container_model.specs.Sizes.riff_front Rattle.container_model.specs.Sizes.plain (drop 4 (Rattle.avi_model.specs.Avi.first_body cs))).left;
  pad = Rattle.avi_model.specs.Avi.first_pad cs;
  others = Rattle.avi_model.specs.Avi.but_first cs;
  tail = left;
}

pub forms_from : (cs : List Chunk) (left : List ℕ) → AllFine (form_steps (stood 0 cs)) → FormsFine cs (avi_from cs left)
unfolding chunks read
forms_from [] left h = record { long = tt; read_on = tt; lists_end = tt; small = tt }
forms_from (c ∷ cs) left h =
    let x : Stood = record { at = 0; chunk = bare c } in
    let a = avi_from (c ∷ cs) left in
    let q = 0 + length (spell c) in
    let more = further_from q cs (all_right StepFine (first_steps x) (flat_map further_steps (stood q cs)) h) in
    let one = all_left StepFine (first_steps x) (flat_map further_steps (stood q cs)) h in
    let top_fine = top_from false (kids x) (all_left StepFine (top_steps false (kids x)) (list_end x ∷ []) one.1) in
    let end_ = (all_right StepFine (top_steps false (kids x)) (list_end x ∷ []) one.1).0 in
    record {
      long = (one.0, more.0);
      read_on = (end_, more.1);
      lists_end = all_both ListEnds (hdrls a) (strls a ++ infos a) top_fine.hdrls_end (all_both ListEnds (strls a) (infos a) top_fine.strls_end top_fine.infos_end);
      small = top_fine.small;
    }

pub from_forms : (cs : List Chunk) (left : List ℕ) → FormsFine cs (avi_from cs left) → AllFine (form_steps (stood 0 cs))
from_forms [] left h = tt
from_forms (c ∷ cs) left h =
    let x : Stood = record { at = 0; chunk = bare c } in
    let a = avi_from (c ∷ cs) left in
    let q = 0 + length (spell c) in
    let more = all_right ListEnds (hdrls a) (strls a ++ infos a) h.lists_end in
    let top_fine : TopFine false (kids x) = record { small = h.small; hdrls_end = all_left ListEnds (hdrls a) (strls a ++ infos a) h.lists_end; strls_end = all_left ListEnds (strls a) (infos a) more; infos_end = all_right ListEnds (strls a) (infos a) more } in
    all_both StepFine (first_steps x) (flat_map further_steps (stood q cs)) (h.long.0, all_both StepFine (top_steps false (kids x)) (list_end x ∷ []) (from_top false (kids x) top_fine) (h.read_on.0, tt)) (from_further q cs h.long.1 h.read_on.1)

pub forms_count : (cs : List Chunk) (left : List ℕ) → parts_met (form_steps (stood 0 cs)) ≡ parts (avi_from cs left)
unfolding chunks read
forms_count [] left = refl
forms_count (c ∷ cs) left =
    let x : Stood = record { at = 0; chunk = bare c } in
    let a = avi_from (c ∷ cs) left in
    let q = 0 + length (spell c) in
    omega (
      arith,
      parts_append (first_steps x) (flat_map further_steps (stood q cs)),
      parts_append (top_steps false (kids x)) (list_end x ∷ []),
      top_count false (kids x),
      further_count q (length (spell (form_of a))) cs,
      stood_length 12 a.children,
      count_append (hdrls a) (strls a ++ infos a),
      count_append (strls a) (infos a),
    )
