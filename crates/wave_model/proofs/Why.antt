-- A file is supported exactly where it isn't refused.
use Rattle.std.proofs.Common.{◌≡◌, ℕ, ◌+◌, ◌≤◌, Bool, true, false, cond, List, [], ◌∷◌, ◌++◌, length, take, drop, Option, None, refl, sym, ap, ◌∙◌, arith}
use Rattle.std.specs.Prelude.{◌&&◌, not, codes}
use Rattle.std.specs.Str.{bytes_eq}
use Rattle.std.specs.List.{flat_map, AllByRecursion}
use Rattle.std.proofs.lemmas.Bool.{ltb-false, le-ltb, and_parts, not-false}
use Rattle.std.proofs.lemmas.List.{length-append}
use Rattle.part_tree.specs.declared.why.Why.{Why}
use Rattle.container_model.specs.Chunk.{Chunk, spell, spell_all, Stop, ends}
use Rattle.container_model.proofs.Items.{same_true}
use Rattle.container_model.proofs.Tests.{AllFalse, first_none, none_first, or_none, guarded, guard, neither, none_of, stop_ends}
use Rattle.carrier_model.specs.Info.{list_run}
use Rattle.wave_model.specs.Wave.{is_big, form_run, firsts, wave_of}
use Rattle.wave_model.specs.Fields.{is_bext, is_info, body_in, bodies}
use Rattle.wave_model.specs.Edited.{is_kind, parts_of, formats, sounds, ChunkFine, IsFormat, ChildrenFine, Ds64Fine, Supported}
use Rattle.wave_model.specs.Why.{kind_tests, ds64_tests, ds64_why, form_tests, Seen, is_fmt, is_data, see, chunk_tests, children_why, is_bad, last_tests, last_why, nothing_seen, chunks_why, why}
use Rattle.container_model.specs.Tests.{first, or_else, ended}

-- ---- one chunk

record Good (s : Seen) (c : Chunk) : Type 0 where
  fine : ChunkFine c
  one_bext : is_bext c ≡ true → s.bexts ≤ 0
  long_bext : is_bext c ≡ true → 602 ≤ length c.body
  one_format : is_fmt c ≡ true → s.formats ≤ 0
  is_format : is_fmt c ≡ true → IsFormat c.body
  one_sound : is_data c ≡ true → s.sounds ≤ 0
  few_parts : s.parts + length (parts_of c) ≤ 65536

good_from : (at : ℕ) (s : Seen) (c : Chunk) → AllFalse (chunk_tests at s c) → Good s c
good_from at s c h = record {
  fine = record {
    list_ends = λ is. stop_ends (list_run c).stop (guarded _ _ h.1.1.1.1.1.1.1.1.0 is);
    carrier_small = λ is. ltb-false _ _ (guarded _ _ h.1.0 is);
  };
  one_bext = λ is. ltb-false _ _ (guarded _ _ h.1.1.0 is);
  long_bext = λ is. ltb-false _ _ (guarded _ _ h.1.1.1.0 is);
  one_format = λ is. ltb-false _ _ (guarded _ _ h.1.1.1.1.0 is);
  is_format = λ is. (ltb-false _ _ (guarded _ _ h.1.1.1.1.1.0 is), ltb-false _ _ (guarded _ _ h.1.1.1.1.1.1.0 is));
  one_sound = λ is. ltb-false _ _ (guarded _ _ h.1.1.1.1.1.1.1.0 is);
  few_parts = ltb-false _ _ h.1.1.1.1.1.1.1.1.1.0;
}

pub parts_some : (c : Chunk) → 1 ≤ length (parts_of c)
parts_some c = go (is_info c)
  where
    go : (t : Bool) → 1 ≤ length (cond t (c ∷ (list_run c).chunks) (c ∷ []))
    go true = omega arith
    go false = omega arith

from_good : (at : ℕ) (s : Seen) (c : Chunk) → Good s c → AllFalse (chunk_tests at s c)
from_good at s c h = (
  le-ltb _ _ (omega (arith, h.few_parts, parts_some c)),
  (
    guard _ _ (λ is. le-ltb _ _ (h.fine.carrier_small is)),
    (
      guard _ _ (λ is. le-ltb _ _ (h.one_bext is)),
      (
        guard _ _ (λ is. le-ltb _ _ (h.long_bext is)),
        (
          guard _ _ (λ is. le-ltb _ _ (h.one_format is)),
          (
            guard _ _ (λ is. le-ltb _ _ (h.is_format is).0),
            (
              guard _ _ (λ is. le-ltb _ _ (h.is_format is).1),
              (
                guard _ _ (λ is. le-ltb _ _ (h.one_sound is)),
                (guard _ _ (λ is. ap (λ (x : Stop). not (ended x)) (h.fine.list_ends is)), (le-ltb _ _ h.few_parts, tt)),
              ),
            ),
          ),
        ),
      ),
    ),
  ),
)

-- ---- all chunks

abbrev AllGood : Seen → List Chunk → Type 0
AllGood s [] = Unit {0}
AllGood s (c ∷ cs) = Good s c × AllGood (see s c) cs

abbrev seen_all : Seen → List Chunk → Seen
seen_all s [] = s
seen_all s (c ∷ cs) = seen_all (see s c) cs

abbrev place_after : ℕ → List Chunk → ℕ
place_after at [] = at
place_after at (c ∷ cs) = place_after (at + length (spell c)) cs

children_good : (at : ℕ) (s : Seen) (cs : List Chunk) (last : ℕ → Seen → Option Why) → children_why at s cs last ≡ None → AllGood s cs × (last (place_after at cs) (seen_all s cs) ≡ None)
children_good at s [] last e = (tt, e)
children_good at s (c ∷ cs) last e =
    let p = or_none (first (chunk_tests at s c)) (children_why (at + length (spell c)) (see s c) cs last) e in
    let more = children_good (at + length (spell c)) (see s c) cs last p.1 in
    ((good_from at s c (first_none (chunk_tests at s c) p.0), more.0), more.1)

good_children : (at : ℕ) (s : Seen) (cs : List Chunk) (last : ℕ → Seen → Option Why) → AllGood s cs → last (place_after at cs) (seen_all s cs) ≡ None → children_why at s cs last ≡ None
good_children at s [] last h e = e
good_children at s (c ∷ cs) last h e = rw (none_first (chunk_tests at s c) (from_good at s c h.0)) (good_children (at + length (spell c)) (see s c) cs last h.1 e)

-- ---- what the counts say

count_by : (p : Chunk → Bool) (c : Chunk) (n : ℕ) → n ≤ 1 → (p c ≡ true → n ≤ 0) → n + length (body_in p c) ≤ 1
count_by p c n low h = go (p c) h
  where
    go : (t : Bool) → (t ≡ true → n ≤ 0) → n + length (cond t (c.body ∷ []) []) ≤ 1
    go true h = omega (arith, h refl)
    go false h = omega arith

by_count : (p : Chunk → Bool) (c : Chunk) (n k : ℕ) → n + (length (body_in p c) + k) ≤ 1 → p c ≡ true → n ≤ 0
by_count p c n k h e = let one : length (body_in p c) ≡ 1 = rw e refl in omega arith

each_value : (P : List ℕ → Type 0) (p : Chunk → Bool) (c : Chunk) → (p c ≡ true → P c.body) → AllByRecursion P (body_in p c)
each_value P p c h = go (p c) h
  where
    go : (t : Bool) → (t ≡ true → P c.body) → AllByRecursion P (cond t (c.body ∷ []) [])
    go true h = (h refl, tt)
    go false h = tt

value_each : (P : List ℕ → Type 0) (p : Chunk → Bool) (c : Chunk) → AllByRecursion P (body_in p c) → p c ≡ true → P c.body
value_each P p c h e = let g : AllByRecursion P (cond true (c.body ∷ []) []) = rw e at h in g.0

values_join : (P : List ℕ → Type 0) (a b : List (List ℕ)) → AllByRecursion P a → AllByRecursion P b → AllByRecursion P (a ++ b)
values_join P [] b h g = g
values_join P (x ∷ a) b h g = (h.0, values_join P a b h.1 g)

values_part : (P : List ℕ → Type 0) (a b : List (List ℕ)) → AllByRecursion P (a ++ b) → AllByRecursion P a × AllByRecursion P b
values_part P [] b h = (tt, h)
values_part P (x ∷ a) b h = let g = values_part P a b h.1 in ((h.0, g.0), g.1)

record Tally (s : Seen) (cs : List Chunk) : Type 0 where
  each : AllByRecursion ChunkFine cs
  formats_few : s.formats + length (formats cs) ≤ 1
  are_formats : AllByRecursion IsFormat (formats cs)
  sounds_few : s.sounds + length (sounds cs) ≤ 1
  bexts_few : s.bexts + length (bodies is_bext cs) ≤ 1
  long_bexts : AllByRecursion (λ b. 602 ≤ length b) (bodies is_bext cs)
  parts_few : s.parts + length (flat_map parts_of cs) ≤ 65536

seen_sums : (s : Seen) (cs : List Chunk) → ((seen_all s cs).formats ≡ s.formats + length (formats cs)) × ((seen_all s cs).sounds ≡ s.sounds + length (sounds cs))
seen_sums s [] = (omega arith, omega arith)
seen_sums s (c ∷ cs) =
    let again = seen_sums (see s c) cs in
    (omega (arith, again.0, length-append (body_in is_fmt c) (formats cs)), omega (arith, again.1, length-append (body_in is_data c) (sounds cs)))

good_tally : (s : Seen) (cs : List Chunk) → s.formats ≤ 1 → s.sounds ≤ 1 → s.bexts ≤ 1 → s.parts ≤ 65536 → AllGood s cs → Tally s cs
good_tally s [] f d b p h = record { each = tt; formats_few = omega arith; are_formats = tt; sounds_few = omega arith; bexts_few = omega arith; long_bexts = tt; parts_few = omega arith }
good_tally s (c ∷ cs) f d b p h =
    let g = h.0 in
    let again = good_tally (see s c) cs (count_by is_fmt c s.formats f g.one_format) (count_by is_data c s.sounds d g.one_sound) (count_by is_bext c s.bexts b g.one_bext) g.few_parts h.1 in
    record {
      each = (g.fine, again.each);
      formats_few = omega (arith, again.formats_few, length-append (body_in is_fmt c) (formats cs));
      are_formats = values_join IsFormat (body_in is_fmt c) (formats cs) (each_value IsFormat is_fmt c g.is_format) again.are_formats;
      sounds_few = omega (arith, again.sounds_few, length-append (body_in is_data c) (sounds cs));
      bexts_few = omega (arith, again.bexts_few, length-append (body_in is_bext c) (bodies is_bext cs));
      long_bexts = values_join (λ x. 602 ≤ length x) (body_in is_bext c) (bodies is_bext cs) (each_value (λ x. 602 ≤ length x) is_bext c g.long_bext) again.long_bexts;
      parts_few = omega (arith, again.parts_few, length-append (parts_of c) (flat_map parts_of cs));
    }

tally_good : (s : Seen) (cs : List Chunk) → Tally s cs → AllGood s cs
tally_good s [] h = tt
tally_good s (c ∷ cs) h =
    let fl = length-append (body_in is_fmt c) (formats cs) in
    let dl = length-append (body_in is_data c) (sounds cs) in
    let bl = length-append (body_in is_bext c) (bodies is_bext cs) in
    let pl = length-append (parts_of c) (flat_map parts_of cs) in
    let fs = values_part IsFormat (body_in is_fmt c) (formats cs) h.are_formats in
    let bs = values_part (λ x. 602 ≤ length x) (body_in is_bext c) (bodies is_bext cs) h.long_bexts in (
      record {
        fine = h.each.0;
        one_bext = by_count is_bext c s.bexts (length (bodies is_bext cs)) (omega (arith, h.bexts_few, bl));
        long_bext = value_each (λ x. 602 ≤ length x) is_bext c bs.0;
        one_format = by_count is_fmt c s.formats (length (formats cs)) (omega (arith, h.formats_few, fl));
        is_format = value_each IsFormat is_fmt c fs.0;
        one_sound = by_count is_data c s.sounds (length (sounds cs)) (omega (arith, h.sounds_few, dl));
        few_parts = omega (arith, h.parts_few, pl);
      },
      tally_good (see s c) cs (record {
        each = h.each.1;
        formats_few = omega (arith, h.formats_few, fl);
        are_formats = fs.1;
        sounds_few = omega (arith, h.sounds_few, dl);
        bexts_few = omega (arith, h.bexts_few, bl);
        long_bexts = bs.1;
        parts_few = omega (arith, h.parts_few, pl);
      }),
    )

bad_ends : (stop : Stop) → stop ≡ ends → (is_bad stop ≡ false) × (not (ended stop) ≡ false)
bad_ends stop e = (ap is_bad e, ap (λ (x : Stop). not (ended x)) e)

-- No refusal of the chunks is what is asked of them.
children_fine : (at n : ℕ) (cs : List Chunk) (stop : Stop) (left : List ℕ) → n ≤ 65536 → children_why at (nothing_seen n) cs (last_why stop left) ≡ None → ChildrenFine cs × (n + length (flat_map parts_of cs) ≤ 65536) × (stop ≡ ends)
children_fine at n cs stop left low e =
    let g = children_good at (nothing_seen n) cs (last_why stop left) e in
    let last : AllFalse (last_tests stop left (place_after at cs) (seen_all (nothing_seen n) cs)) = first_none (last_tests stop left (place_after at cs) (seen_all (nothing_seen n) cs)) g.1 in
    let t = good_tally (nothing_seen n) cs (omega arith) (omega arith) (omega arith) low g.0 in
    let sums = seen_sums (nothing_seen n) cs in
    let f1 : 1 ≤ (seen_all (nothing_seen n) cs).formats = ltb-false _ _ last.1.1.0 in
    let d1 : 1 ≤ (seen_all (nothing_seen n) cs).sounds = ltb-false _ _ last.1.1.1.0 in (
      record {
        each = t.each;
        one_format = omega (arith, t.formats_few, sums.0, f1);
        are_formats = t.are_formats;
        one_sound = omega (arith, t.sounds_few, sums.1, d1);
        one_bext = omega (arith, t.bexts_few);
        long_bext = t.long_bexts;
      },
      t.parts_few,
      stop_ends stop last.1.0,
    )

fine_children : (at n : ℕ) (cs : List Chunk) (stop : Stop) (left : List ℕ) → ChildrenFine cs → n + length (flat_map parts_of cs) ≤ 65536 → stop ≡ ends → children_why at (nothing_seen n) cs (last_why stop left) ≡ None
fine_children at n cs stop left h p e =
    let t : Tally (nothing_seen n) cs = record { each = h.each; formats_few = omega (arith, h.one_format); are_formats = h.are_formats; sounds_few = omega (arith, h.one_sound); bexts_few = omega (arith, h.one_bext); long_bexts = h.long_bext; parts_few = p } in
    let sums = seen_sums (nothing_seen n) cs in
    let b = bad_ends stop e in
    good_children at (nothing_seen n) cs (last_why stop left) (tally_good (nothing_seen n) cs t)
    (none_first (last_tests stop left (place_after at cs) (seen_all (nothing_seen n) cs)) (b.0, (b.1, (le-ltb _ _ (omega (arith, sums.0, h.one_format)), (le-ltb _ _ (omega (arith, sums.1, h.one_sound)), tt)))))

-- ---- the form

few_firsts : (t : Bool) (cs : List Chunk) → length (firsts t cs) ≤ 1
few_firsts true [] = omega arith
few_firsts true (c ∷ cs) = omega arith
few_firsts false cs = omega arith

module _ (b : List ℕ) where
  ds64_from : AllFalse (ds64_tests b) → Ds64Fine b
  ds64_from h =
      let p = neither _ _ h.0 in
      let q = neither _ _ h.1.1.0 in
      let r = neither _ _ q.1 in
      record {
        ds64_id = same_true (take 4 (drop 12 b)) (codes "ds64") (not-false _ p.1);
        small = ltb-false _ _ h.1.0;
        long = ltb-false _ _ q.0;
        holds_rows = ltb-false _ _ r.1;
        inside = ltb-false _ _ r.0;
      }

  from_ds64 : Ds64Fine b → AllFalse (ds64_tests b)
  from_ds64 f =
      let id : bytes_eq (take 4 (drop 12 b)) (codes "ds64") ≡ true = ap (λ (x : List ℕ). bytes_eq x (codes "ds64")) f.ds64_id in
      (none_of _ _ (le-ltb _ _ (omega (arith, f.inside))) (ap not id), (le-ltb _ _ f.small, (none_of _ _ (le-ltb _ _ f.long) (none_of _ _ (le-ltb _ _ f.inside) (le-ltb _ _ f.holds_rows)), tt)))

  pub why_supported : why b ≡ None → Supported b
  unfolding why
  why_supported e =
      let few : length (wave_of b).ds64 ≤ 65536 = omega (arith, few_firsts (is_big (take 4 b)) (form_run b).chunks) in
      let k = or_none (first (kind_tests b)) (or_else (ds64_why (is_big (take 4 b)) b) (or_else (first (form_tests b)) (chunks_why b))) e in
      let d = or_none (ds64_why (is_big (take 4 b)) b) (or_else (first (form_tests b)) (chunks_why b)) k.1 in
      let n = or_none (first (form_tests b)) (chunks_why b) d.1 in
      let kinds = first_none (kind_tests b) k.0 in
      let words = and_parts _ _ (not-false _ kinds.0) in
      let forms = neither _ _ (first_none (form_tests b) n.0).0 in
      let w = wave_of b in
      let c = children_fine (12 + length (spell_all w.ds64)) (length w.ds64) w.children (form_run b).stop w.left few n.1 in
      record {
        form_id = words.0;
        form_type = same_true (take 4 (drop 8 b)) (codes "WAVE") words.1;
        with_ds64 = λ big. ds64_from (first_none (ds64_tests b) (sym (ap (λ (t : Bool). ds64_why t b) big) ∙ d.0));
        long = ltb-false _ _ forms.0;
        inside = ltb-false _ _ forms.1;
        chunks_end = c.2;
        children = c.0;
        few_parts = c.1;
      }

  pub supported_why : Supported b → why b ≡ None
  unfolding why
  supported_why s =
      let w = wave_of b in
      let type : bytes_eq (take 4 (drop 8 b)) (codes "WAVE") ≡ true = ap (λ (x : List ℕ). bytes_eq x (codes "WAVE")) s.form_type in
      let kinds : first (kind_tests b) ≡ None = none_first (kind_tests b) (ap not (both (is_kind (take 4 b)) _ s.form_id type), tt) in
      let forms : first (form_tests b) ≡ None = none_first (form_tests b) (none_of _ _ (le-ltb _ _ s.long) (le-ltb _ _ s.inside), tt) in
      ap (λ (x : Option Why). or_else x (or_else (ds64_why (is_big (take 4 b)) b) (or_else (first (form_tests b)) (chunks_why b)))) kinds
      ∙ ap (λ (x : Option Why). or_else x (or_else (first (form_tests b)) (chunks_why b))) (with_it (is_big (take 4 b)) refl) ∙ ap (λ (x : Option Why). or_else x (chunks_why b)) forms
      ∙ fine_children (12 + length (spell_all w.ds64)) (length w.ds64) w.children (form_run b).stop w.left s.children s.few_parts s.chunks_end
    where
      both : (x y : Bool) → x ≡ true → y ≡ true → (x && y) ≡ true
      both true true e i = refl
      both true false e i = absurd cc
      both false y e i = absurd cc

      with_it : (t : Bool) → is_big (take 4 b) ≡ t → ds64_why t b ≡ None
      with_it true e = none_first (ds64_tests b) (from_ds64 (s.with_ds64 e))
      with_it false e = refl
