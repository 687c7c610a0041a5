-- The lists of the streams, one after the other.
use Rattle.std.proofs.Common.{◌≡◌, ◌∙◌, ◌⊎◌, ℕ, zero, suc, ◌+◌, ◌-◌, ◌%◌, ◌≤◌, ◌<◌, Bool, true, false, cond, List, [], ◌∷◌, ◌++◌, length, map, get_or, min, refl, sym, ap, subst, arith, inl, inr, append_assoc, append-nil}
use Rattle.std.specs.Prelude.{◌&&◌, IsTrue}
use Rattle.std.specs.List.{AllByRecursion, flat_map, list_all}
use Rattle.std.proofs.lemmas.Bool.{and_parts}
use Rattle.std.proofs.lemmas.List.{map-append}
use Rattle.std.proofs.lemmas.List.Concat.{flat_map-append}
use Rattle.me_disk.specs.Disk.{Disk, bytes_of}
use Rattle.me_disk.specs.Holds.{Holds}
use Rattle.me_disk.specs.Steps.{ReadsOnly}
use Rattle.part_tree.specs.declared.names.Span.{Span}
use Rattle.part_tree.specs.declared.plan.Patch.{Patch}
use Rattle.container_model.specs.Chunk.{spell}
use Rattle.container_model.specs.Splice.{Cut}
use Rattle.carrier_model.specs.Info.{list_run}
use Rattle.unit_plan.specs.Cuts.{FitsIn, IsExact, SpansAscend, cut_in, patch_of}
use Rattle.unit_plan.specs.declared.cut.CutAt.{CutAt}
use Rattle.unit_plan.specs.declared.row.UnitCuts.{UnitCuts}
use Rattle.avi_model.specs.Named.{Names, Site, is_named}
use Rattle.avi_model.specs.RoomAfter.{strl_fits, strl_patches}
use Rattle.avi_plan.specs.Lists.{IsSoundList, behind, keeps_pad, list_cuts, size_then}
use Rattle.avi_plan.specs.NamesAt.{strl_needed}
use Rattle.avi_plan.specs.Streams.{AreInside, AreSites, IsSite, StreamsTold, count_now, count_was, named_among, strl_then}
use Rattle.avi_plan.specs.declared.list.ListAt.{ListAt}
use Rattle.avi_plan.specs.declared.streams.StreamSpans.{StreamSpans}
use Rattle.avi_plan.proofs.Around.{around_ascend, around_exact, around_fits, spans_up}
use Rattle.avi_plan.proofs.Spans.{spans_low}

-- ---- by numbers alone

pub exact_append : (ks ms : List CutAt) → AllByRecursion IsExact ks → AllByRecursion IsExact ms → AllByRecursion IsExact (ks ++ ms)
exact_append [] ms h g = g
exact_append (k ∷ ks) ms h g = (h.0, exact_append ks ms h.1 g)

pub fits_append : (len : ℕ) (ks ms : List CutAt) → AllByRecursion IsExact ks → FitsIn len ms → FitsIn len (ks ++ ms)
fits_append len [] ms h g = g
fits_append len (k ∷ ks) ms h g = (inl h.0, fits_append len ks ms h.1 g)

pub put_inside : (from end len : ℕ) (old new : StreamSpans) (l : ListAt) (u : UnitCuts) → IsSoundList l → old.at ≤ l.at → l.next ≤ len → l.next ≤ end → AreInside from end len old
    → SpansAscend (l.at + 12) u.cuts.items (l.at + 8 + l.size) → (u.fits ≡ true → AllByRecursion IsExact u.cuts.items ⊎ ((l.at + 8 + l.size ≡ len) × FitsIn len u.cuts.items))
    → new.cuts.items ≡ old.cuts.items ++ list_cuts l u.cuts.items → new.fits ≡ (old.fits && (u.fits && keeps_pad l (size_then l u.cuts.items))) → new.at ≡ l.next → AreInside from end len new
put_inside from end len old new l u sound order within low are ascend exact cuts fits at = record {
  ascend = subst (λ (ks : List CutAt). SpansAscend from ks new.at) (sym cuts) (subst (SpansAscend from (old.cuts.items ++ list_cuts l ks)) (sym at)
      (spans_up from old.at l.next old.cuts.items (list_cuts l ks) are.ascend (spans_low old.at (l.at + 1) l.next (list_cuts l ks) (omega (arith, order)) (around_ascend l sound n ks ascend))));
  inside = omega (arith, at, low);
  fits = λ f. subst (λ (k : ℕ). AllByRecursion IsExact new.cuts.items ⊎ ((k ≡ len) × FitsIn len new.cuts.items)) (sym at) (subst (λ (ms : List CutAt). AllByRecursion IsExact ms ⊎ ((l.next ≡ len) × FitsIn len ms)) (sym cuts) (all (sym fits ∙ f)));
}
  where
    ks : List CutAt
    ks = u.cuts.items

    n : ℕ
    n = size_then l u.cuts.items

    before : AllByRecursion IsExact old.cuts.items ⊎ ((old.at ≡ len) × FitsIn len old.cuts.items) → AllByRecursion IsExact old.cuts.items
    before (inl h) = h
    before (inr h) = absurd (omega (arith, h.0, order, within, sound.whole))

    all : (old.fits && (u.fits && keeps_pad l (size_then l u.cuts.items))) ≡ true → AllByRecursion IsExact (old.cuts.items ++ list_cuts l u.cuts.items) ⊎ ((l.next ≡ len) × FitsIn len (old.cuts.items ++ list_cuts l u.cuts.items))
    all f = go (exact q.0)
      where
        p : (old.fits ≡ true) × ((u.fits && keeps_pad l (size_then l u.cuts.items)) ≡ true)
        p = and_parts old.fits (u.fits && keeps_pad l (size_then l u.cuts.items)) f

        q : (u.fits ≡ true) × (keeps_pad l (size_then l u.cuts.items) ≡ true)
        q = and_parts u.fits (keeps_pad l (size_then l u.cuts.items)) p.1

        olds : AllByRecursion IsExact old.cuts.items
        olds = before (are.fits p.0)

        go : AllByRecursion IsExact u.cuts.items ⊎ ((l.at + 8 + l.size ≡ len) × FitsIn len u.cuts.items) → AllByRecursion IsExact (old.cuts.items ++ list_cuts l u.cuts.items) ⊎ ((l.next ≡ len) × FitsIn len (old.cuts.items ++ list_cuts l u.cuts.items))
        go (inl h) = inl (exact_append old.cuts.items (list_cuts l u.cuts.items) olds (around_exact l sound (size_then l u.cuts.items) q.1 u.cuts.items h))
        go (inr h) = inr (omega (arith, h.0, within, sound.whole), fits_append len old.cuts.items (list_cuts l u.cuts.items) olds (around_fits l sound (size_then l u.cuts.items) q.1 len u.cuts.items h.1))

-- ---- one list more

-- what the spans of a stream's list are to the model
pub record OneTold (b : List ℕ) (e : Names) (s : Site) (ks : List CutAt) (fits : Bool) (was now : ℕ) : Type 0 where
  pub cuts_are : map (cut_in b) ks ≡ strl_needed e s
  pub fits_are : fits ≡ strl_fits e s
  pub patches : fits ≡ true → flat_map patch_of ks ≡ strl_patches e s
  pub was_is : was ≡ length (list_run s.chunk).chunks
  pub now_is : now ≡ length (strl_then e s)

all_more : (e : Names) (ss : List Site) (s : Site) → list_all (strl_fits e) (ss ++ s ∷ []) ≡ (list_all (strl_fits e) ss && strl_fits e s)
all_more e [] s = go (strl_fits e s)
  where
    go : (t : Bool) → (t && true) ≡ t
    go true = refl
    go false = refl
all_more e (x ∷ ss) s = go (strl_fits e x) (all_more e ss s)
  where
    go : (t : Bool) → list_all (strl_fits e) (ss ++ s ∷ []) ≡ (list_all (strl_fits e) ss && strl_fits e s) → (t && list_all (strl_fits e) (ss ++ s ∷ [])) ≡ ((t && list_all (strl_fits e) ss) && strl_fits e s)
    go true again = again
    go false again = refl

was_more : (ss : List Site) (s : Site) → count_was (ss ++ s ∷ []) ≡ count_was ss + length (list_run s.chunk).chunks
was_more [] s = omega arith
was_more (x ∷ ss) s = omega (arith, was_more ss s)

now_more : (e : Names) (ss : List Site) (s : Site) → count_now e (ss ++ s ∷ []) ≡ count_now e ss + length (strl_then e s)
now_more e [] s = omega arith
now_more e (x ∷ ss) s = omega (arith, now_more e ss s)

pub told_more : (b : List ℕ) (e : Names) (ss : List Site) (s : Site) (old new : StreamSpans) (ks : List CutAt) (fits : Bool) (was now : ℕ) → StreamsTold b e ss old → OneTold b e s ks fits was now
    → new.cuts.items ≡ old.cuts.items ++ ks → new.fits ≡ (old.fits && fits) → new.was ≡ old.was + was → new.now ≡ old.now + now → StreamsTold b e (ss ++ s ∷ []) new
told_more b e ss s old new ks fits was now told one cuts fit w n = record {
  cuts_are = ap (map (cut_in b)) cuts ∙ map-append (cut_in b) old.cuts.items ks ∙ ap (λ (x : List Cut). x ++ map (cut_in b) ks) told.cuts_are ∙ ap (λ (x : List Cut). flat_map (strl_needed e) ss ++ x) (one.cuts_are ∙ sym (append-nil (strl_needed e s)))
      ∙ sym (flat_map-append (strl_needed e) ss (s ∷ []));
  patches = λ f.
      let p = and_parts old.fits fits (sym fit ∙ f) in
      ap (flat_map patch_of) cuts ∙ flat_map-append patch_of old.cuts.items ks ∙ ap (λ (x : List Patch). x ++ flat_map patch_of ks) (told.patches p.0)
      ∙ ap (λ (x : List Patch). flat_map (strl_patches e) ss ++ x) (one.patches p.1 ∙ sym (append-nil (strl_patches e s))) ∙ sym (flat_map-append (strl_patches e) ss (s ∷ []));
  fits = fit ∙ ap (λ (t : Bool). t && fits) told.fits ∙ ap (λ (t : Bool). list_all (strl_fits e) ss && t) one.fits_are ∙ sym (all_more e ss s);
  was = omega (arith, w, told.was, one.was_is, was_more ss s);
  now = omega (arith, n, told.now, one.now_is, now_more e ss s);
}

-- ---- a stream that isn't named, and one that is

pub not_among : (e : Names) (s : Site) (ss : List Site) → is_named e s.stream ≡ false → ss ≡ ss ++ named_among e (s ∷ [])
not_among e s ss h = sym (ap (λ (t : Bool). ss ++ cond t (s ∷ []) []) h ∙ append-nil ss)

pub is_among : (e : Names) (s : Site) (ss : List Site) → is_named e s.stream ≡ true → ss ++ s ∷ [] ≡ ss ++ named_among e (s ∷ [])
is_among e s ss h = sym (ap (λ (t : Bool). ss ++ cond t (s ∷ []) []) h)

among_append : (e : Names) (a c : List Site) → named_among e (a ++ c) ≡ named_among e a ++ named_among e c
among_append e [] c = refl
among_append e (x ∷ a) c = go (is_named e x.stream) (among_append e a c)
  where
    go : (t : Bool) → named_among e (a ++ c) ≡ named_among e a ++ named_among e c → cond t (x ∷ named_among e (a ++ c)) (named_among e (a ++ c)) ≡ cond t (x ∷ named_among e a) (named_among e a) ++ named_among e c
    go true again = ap (λ (z : List Site). x ∷ z) again
    go false again = again

-- ---- the streams that are left

pub record SitesLeft (b : List ℕ) (e : Names) (end len k : ℕ) (spans : List Span) (ss : List Site) (found : StreamSpans) : Type 0 where
  pub done : List Site
  pub rest : List Site
  pub low : ℕ
  pub all : ss ≡ done ++ rest
  pub told : StreamsTold b e (named_among e done) found
  pub at : found.at ≤ low
  pub left : AreSites b end len k low spans rest

-- the next one
pub record NextSite (b : List ℕ) (e : Names) (end len k : ℕ) (x : Span) (xs : List Span) (ss : List Site) (old : StreamSpans) : Type 0 where
  pub site : Site
  pub done : List Site
  pub is : IsSite b end len x site
  pub number : site.stream ≡ k
  pub told : StreamsTold b e (named_among e done) old
  pub at : old.at ≤ site.at
  pub then : (new : StreamSpans) → StreamsTold b e (named_among e done ++ named_among e (site ∷ [])) new → new.at ≤ site.at + length (spell site.chunk) → SitesLeft b e end len (suc k) xs ss new

pub next_site : (b : List ℕ) (e : Names) (end len k : ℕ) (x : Span) (xs : List Span) (ss : List Site) (old : StreamSpans) → SitesLeft b e end len k (x ∷ xs) ss old → NextSite b e end len k x xs ss old
next_site b e end len k x xs ss old h = go h.rest h.all h.left
  where
    go : (rest : List Site) → ss ≡ h.done ++ rest → AreSites b end len k h.low (x ∷ xs) rest → NextSite b e end len k x xs ss old
    go [] all left = absurd left
    go (s ∷ rest) all left = record {
      site = s;
      done = h.done;
      is = left.0;
      number = left.1;
      told = h.told;
      at = omega (arith, h.at, left.2);
      then = λ new told at. record {
        done = h.done ++ s ∷ [];
        rest = rest;
        low = s.at + length (spell s.chunk);
        all = all ∙ sym (append_assoc h.done (s ∷ []) rest);
        told = subst (λ (z : List Site). StreamsTold b e z new) (sym (among_append e h.done (s ∷ []))) told;
        at = at;
        left = left.3;
      };
    }

pub no_site : (b : List ℕ) (e : Names) (end len k : ℕ) (ss : List Site) (found : StreamSpans) → SitesLeft b e end len k [] ss found → StreamsTold b e (named_among e ss) found
no_site b e end len k ss found h = go h.rest h.all h.left
  where
    go : (rest : List Site) → ss ≡ h.done ++ rest → AreSites b end len k h.low [] rest → StreamsTold b e (named_among e ss) found
    go [] all left = subst (λ (z : List Site). StreamsTold b e (named_among e z) found) (sym (all ∙ append-nil h.done)) h.told
    go (s ∷ rest) all left = absurd left

-- ---- the first, and the last

pub sites_start : (b : List ℕ) (e : Names) (end len from : ℕ) (spans : List Span) (ss : List Site) (found : StreamSpans) → found.cuts.items ≡ [] → found.fits ≡ true → found.was ≡ 0 → found.now ≡ 0 → found.at ≡ from
    → AreSites b end len 0 from spans ss → SitesLeft b e end len 0 spans ss found
sites_start b e end len from spans ss found cuts fits was now at sites = record {
  done = [];
  rest = ss;
  low = from;
  all = refl;
  told = record { cuts_are = ap (map (cut_in b)) cuts; patches = λ f. ap (flat_map patch_of) cuts; fits = fits; was = was; now = now };
  at = omega (arith, at);
  left = sites;
}

pub start_inside : (from end len : ℕ) (found : StreamSpans) → found.cuts.items ≡ [] → found.at ≡ from → from ≤ end → AreInside from end len found
start_inside from end len found cuts at le = record {
  ascend = subst (λ (ks : List CutAt). SpansAscend from ks found.at) (sym cuts) (omega (arith, at));
  inside = omega (arith, at, le);
  fits = λ f. inl (subst (AllByRecursion IsExact) (sym cuts) tt);
}

pub all_get : (P : Span → Type 0) (ss : List Span) (k : ℕ) (d : Span) → AllByRecursion P ss → k < length ss → P (get_or ss k d)
all_get P [] k d h lt = absurd (omega (arith, lt))
all_get P (s ∷ ss) zero d h lt = h.0
all_get P (s ∷ ss) (suc k) d h lt = all_get P ss k d h.1 (omega (arith, lt))

-- what a depot tells that was only read, it told before
pub holds_before : (a b : Disk) (o : List ℕ) → ReadsOnly a b → Holds b o → Holds a o
holds_before a b o reads h = record { tells = subst IsTrue reads.tells h.tells; bytes = ap bytes_of (sym reads.main) ∙ h.bytes }

-- ---- a stream's list by its span behind the type

pub behind_is : (l : ListAt) (strl : Span) → l.at + 12 ≡ strl.at → l.size ≡ strl.len + 4 → behind l ≡ strl
behind_is l strl at size =
    let len : l.size - 4 ≡ strl.len = omega (arith, size) in
    ap (λ (p : ℕ). record { at = p; len = l.size - 4 }) at ∙ ap (λ (n : ℕ). record { at = strl.at; len = n }) len

pub next_there : (b : List ℕ) (end len : ℕ) (strl : Span) (l : ListAt) (s : Site) → IsSite b end len strl s → l.next ≡ min end (strl.at + strl.len + (strl.len + 4) % 2) → l.next ≡ s.at + length (spell s.chunk)
next_there b end len strl l s site next =
    let at : strl.at ≡ s.at + 12 = ap (λ (x : Span). x.at) site.told in
    let long : strl.len ≡ length s.chunk.body - 4 = ap (λ (x : Span). x.len) site.told in
    let whole : strl.len + 4 ≡ length s.chunk.body = omega (arith, long, site.long) in
    let place : strl.at + strl.len ≡ s.at + 8 + length s.chunk.body = omega (arith, at, whole) in
    next ∙ ap (λ (k : ℕ). min end (k + (strl.len + 4) % 2)) place ∙ ap (λ (n : ℕ). min end (s.at + 8 + length s.chunk.body + n % 2)) whole ∙ sym site.next
