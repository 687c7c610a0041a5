-- Spans of one range that are replaced, and then spans beside it, as one list: the latter are told where they stood before.
use Rattle.std.proofs.Common.{◌≡◌, ℕ, ◌+◌, ◌-◌, ◌<◌, ◌≤◌, Bool, true, false, cond, leb, ltb, List, [], ◌∷◌, ◌++◌, length, map, take, drop, refl, sym, ap, subst, ◌∙◌, arith, inl, inr}
use Rattle.std.specs.Prelude.{◌⊎◌}
use Rattle.std.specs.List.{AllByRecursion}
use Rattle.std.proofs.lemmas.Bool.{cases_lt, cond-true, cond-false, leb-false, leb-true, le-leb, le-ltb, lt-leb, lt-ltb}
use Rattle.std.proofs.lemmas.List.{drop-append-le, length-drop, take-append-le}
use Rattle.container_model.specs.Splice.{Cut, end_of, splice_from, Ascend, gained, lost, shift, Outside}
use Rattle.container_model.proofs.Goes.{Block}
use Rattle.container_model.proofs.Splice.{before_lost, lost_low, shift_order}
use Rattle.container_model.proofs.Units.{From, From-low, splice_past}
use Rattle.carrier_model.proofs.Fitted.{cut_open}
use Rattle.avi_model.specs.NewFile.{put_cut, put_cuts}
use Rattle.avi_model.proofs.JoinedGoes.{behind_block}
use Rattle.avi_model.proofs.Merged.{AllApart, ApartFrom, all_low, merged_ascends, put_both}
use Rattle.avi_model.proofs.NamesSpliced.{Splices}

-- ---- some spans put among others

put_here : (c : Cut) (ds : List Cut) → From (end_of c) ds → put_cut c ds ≡ c ∷ ds
put_here c [] h = refl
put_here c (d ∷ ds) h = ap (λ (t : Bool). cond t (c ∷ (d ∷ ds)) (d ∷ put_cut c ds)) (le-leb (end_of c) d.at h)

-- before others that stand behind all
put_before : (at end : ℕ) (cs ds : List Cut) → Ascend at cs end → From end ds → put_cuts cs ds ≡ cs ++ ds
put_before at end [] ds a f = refl
put_before at end (c ∷ cs) ds a f = ap (put_cut c) (put_before (end_of c) end cs ds a.1 f) ∙ put_here c (cs ++ ds) (both cs a.1)
  where
    ends : (at end : ℕ) (cs : List Cut) → Ascend at cs end → at ≤ end
    ends at end [] a = a
    ends at end (c ∷ cs) a = omega (arith, a.0, ends (end_of c) end cs a.1)

    both : (cs : List Cut) → Ascend (end_of c) cs end → From (end_of c) (cs ++ ds)
    both [] a = From-low (end_of c) end ds a f
    both (b ∷ cs) a = a.0

-- behind one that stands before all
put_behind : (d : Cut) (cs ds : List Cut) → AllByRecursion (λ c. d.at < end_of c) cs → put_cuts cs (d ∷ ds) ≡ d ∷ put_cuts cs ds
put_behind d [] ds h = refl
put_behind d (c ∷ cs) ds h =
    ap (put_cut c) (put_behind d cs ds h.1) ∙ ap (λ (t : Bool). cond t (c ∷ (d ∷ put_cuts cs ds)) (d ∷ put_cut c (put_cuts cs ds))) (lt-leb (end_of c) d.at h.0)

-- ---- where spans stood

-- a place behind a range that begins at a, in bytes of a length m that became n long
abbrev pub at_old : ℕ → ℕ → ℕ → ℕ → ℕ
at_old a m n p = cond (ltb a p) ((p + m) - n) p

abbrev pub cut_old : ℕ → ℕ → ℕ → Cut → Cut
cut_old a m n c = record c { at = at_old a m n c.at }

-- a span before the range or behind it, as it is then
abbrev pub Beside : ℕ → ℕ → Cut → Type 0
Beside a y d = (end_of d ≤ a) ⊎ (a + y ≤ d.at)

module _ (a x y m n : ℕ) (some : 0 < x) (new : 0 < y) (grown : x + n ≡ y + m) where
  before_at : (p : ℕ) → p ≤ a → at_old a m n p ≡ p
  before_at p le = cond-false (ltb a p) ((p + m) - n) p (le-ltb a p le)

  behind_at : (p : ℕ) → a + y ≤ p → at_old a m n p ≡ (p + m) - n
  behind_at p le = cond-true (ltb a p) ((p + m) - n) p (lt-ltb a p (omega (arith, le, new)))

  stays : (d : Cut) → end_of d ≤ a → cut_old a m n d ≡ d
  stays d le = ap (λ (q : ℕ). record d { at = q }) (before_at d.at (omega (arith, le)))

  -- ---- they ascend

  -- where the spans begin that are left
  abbrev State : ℕ → ℕ → Type 0
  State from low = ((from ≤ a) × (low ≤ from)) ⊎ ((a + y ≤ from) × (low + n ≤ from + m))

  pub old_ascend : (from low end to : ℕ) (ds : List Cut) → a + y ≤ end → to + n ≡ end + m → State from low → Ascend from ds end → AllByRecursion (Beside a y) ds → Ascend low (map (cut_old a m n) ds) to
  old_ascend from low end to [] far same (inl s) asc h = omega (arith, far, same, s.0, s.1, grown)
  old_ascend from low end to [] far same (inr s) asc h = omega (arith, far, same, s.1, asc)
  old_ascend from low end to (d ∷ ds) far same s asc h = go h.0 s (λ t. old_ascend (end_of d) (end_of (cut_old a m n d)) end to ds far same t asc.1 h.1)
    where
      go : Beside a y d → State from low → (State (end_of d) (end_of (cut_old a m n d)) → Ascend (end_of (cut_old a m n d)) (map (cut_old a m n) ds) to) → Ascend low (cut_old a m n d ∷ map (cut_old a m n) ds) to
      go (inl le) (inl t) again = let e = before_at d.at (omega (arith, le)) in (omega (arith, e, t.1, asc.0), again (inl (le, omega (arith, e))))
      go (inl le) (inr t) again = absurd (omega (arith, le, t.0, asc.0, new))
      go (inr le) (inl t) again = let e = behind_at d.at le in (omega (arith, e, t.0, t.1, le, grown), again (inr (omega (arith, le), omega (arith, e, le, grown))))
      go (inr le) (inr t) again = let e = behind_at d.at le in (omega (arith, e, t.1, le, asc.0), again (inr (omega (arith, le), omega (arith, e, le, grown))))

  -- ---- one after the other, or together

  -- behind the range all bytes are elsewhere
  slid : (p q : ℕ) (b : List ℕ) (ds : List Cut) (end : ℕ) → a + y ≤ q → p + n ≡ q + m → Ascend q ds end → splice_from p b (map (cut_old a m n) ds) ≡ splice_from q b ds
  slid p q b [] end far same asc = refl
  slid p q b (d ∷ ds) end far same asc =
      let e = behind_at d.at (omega (arith, far, asc.0)) in
      let one : (cut_old a m n d).at - p ≡ d.at - q = omega (arith, e, same, asc.0, far, grown) in
      let two : end_of (cut_old a m n d) - p ≡ end_of d - q = omega (arith, e, same, asc.0, far, grown) in
      let more = slid (end_of (cut_old a m n d)) (end_of d) (drop (end_of d - q) b) ds end (omega (arith, far, asc.0)) (omega (arith, e, far, asc.0, grown)) asc.1 in
      ap (λ (k : ℕ). take k b ++ (d.bytes ++ splice_from (end_of (cut_old a m n d)) (drop (end_of (cut_old a m n d) - p) b) (map (cut_old a m n) ds))) one
      ∙ ap (λ (k : ℕ). take (d.at - q) b ++ (d.bytes ++ splice_from (end_of (cut_old a m n d)) (drop k b) (map (cut_old a m n) ds))) two
      ∙ ap (λ (z : List ℕ). take (d.at - q) b ++ (d.bytes ++ z)) more

  module _ (cs : List Cut) (old now : List ℕ) (old_long : length old ≡ x) (now_long : length now ≡ y) (splices : Splices a old now cs) (inside : Ascend a cs (a + x)) (behind : AllByRecursion (λ c. a < c.at) cs) where
    pub composed : (at end : ℕ) (front rest : List ℕ) (ds : List Cut) → at + length front ≡ a → Ascend at ds end → AllByRecursion (Beside a y) ds
        → splice_from at (front ++ (old ++ rest)) (put_cuts cs (map (cut_old a m n) ds)) ≡ splice_from at (front ++ (now ++ rest)) ds
    composed at end front rest [] e asc h =
        let none : put_cuts cs [] ≡ cs ++ [] = put_before a (a + x) cs [] inside tt in
        ap (splice_from at (front ++ (old ++ rest))) none
        ∙ splice_past at front (old ++ rest) (cs ++ []) (subst (λ (k : ℕ). From k (cs ++ [])) (sym e) (splices.from [] tt))
        ∙ ap (λ (k : ℕ). front ++ splice_from k (old ++ rest) (cs ++ [])) e ∙ ap (λ (z : List ℕ). front ++ z) (splices.replaced rest [] tt)
    composed at end front rest (d ∷ ds) e asc h = go h.0 (composed (end_of d) end (drop (end_of d - at) front) rest ds)
      where
        late : (cs : List Cut) → end_of d ≤ a → AllByRecursion (λ c. a < c.at) cs → AllByRecursion (λ c. d.at < end_of c) cs
        late [] le k = tt
        late (c ∷ cs) le k = (omega (arith, le, k.0), late cs le k.1)

        go : Beside a y d
            → (end_of d + length (drop (end_of d - at) front) ≡ a → Ascend (end_of d) ds end → AllByRecursion (Beside a y) ds
            → splice_from (end_of d) (drop (end_of d - at) front ++ (old ++ rest)) (put_cuts cs (map (cut_old a m n) ds)) ≡ splice_from (end_of d) (drop (end_of d - at) front ++ (now ++ rest)) ds)
            → splice_from at (front ++ (old ++ rest)) (put_cuts cs (cut_old a m n d ∷ map (cut_old a m n) ds)) ≡ splice_from at (front ++ (now ++ rest)) (d ∷ ds)
        go (inl le) again =
            let j = d.at - at in
            let k = end_of d - at in
            let z = put_cuts cs (map (cut_old a m n) ds) in
            let first : put_cuts cs (cut_old a m n d ∷ map (cut_old a m n) ds) ≡ d ∷ z
            = ap (λ (c : Cut). put_cuts cs (c ∷ map (cut_old a m n) ds)) (stays d le) ∙ put_behind d cs (map (cut_old a m n) ds) (late cs le behind) in
            let jl : j ≤ length front = omega (arith, e, le) in
            let kl : k ≤ length front = omega (arith, e, le) in
            let left : end_of d + length (drop k front) ≡ a = omega (arith, e, le, asc.0, length-drop k front) in
            ap (splice_from at (front ++ (old ++ rest))) first
            ∙ ap (λ (w : List ℕ). w ++ (d.bytes ++ splice_from (end_of d) (drop k (front ++ (old ++ rest))) z)) (take-append-le j front (old ++ rest) jl ∙ sym (take-append-le j front (now ++ rest) jl))
            ∙ ap (λ (w : List ℕ). take j (front ++ (now ++ rest)) ++ (d.bytes ++ splice_from (end_of d) w z)) (drop-append-le k front (old ++ rest) kl)
            ∙ ap (λ (w : List ℕ). take j (front ++ (now ++ rest)) ++ (d.bytes ++ w)) (again left asc.1 h.1)
            ∙ ap (λ (w : List ℕ). take j (front ++ (now ++ rest)) ++ (d.bytes ++ splice_from (end_of d) w ds)) (sym (drop-append-le k front (now ++ rest) kl))
        go (inr le) again =
            let X = cut_old a m n d ∷ map (cut_old a m n) ds in
            let far : a + x ≤ (cut_old a m n d).at = omega (arith, behind_at d.at le, le, grown) in
            let ends_old : a + length old ≡ a + x = ap (λ (k : ℕ). a + k) old_long in
            let ends_now : a + length now ≡ a + y = ap (λ (k : ℕ). a + k) now_long in
            let from : From (a + length old) X = omega (arith, far, old_long) in
            ap (splice_from at (front ++ (old ++ rest))) (put_before a (a + x) cs X inside far)
            ∙ splice_past at front (old ++ rest) (cs ++ X) (subst (λ (k : ℕ). From k (cs ++ X)) (sym e) (splices.from X from))
            ∙ ap (λ (k : ℕ). front ++ splice_from k (old ++ rest) (cs ++ X)) e
            ∙ ap (λ (z : List ℕ). front ++ z) (splices.replaced rest X from ∙ ap (λ (k : ℕ). now ++ splice_from k rest X) ends_old
            ∙ ap (λ (z : List ℕ). now ++ z) (slid (a + x) (a + y) rest (d ∷ ds) end (omega arith) (omega (arith, grown)) (le, asc.1))
            ∙ ap (λ (k : ℕ). now ++ splice_from k rest (d ∷ ds)) (sym ends_now) ∙ sym (splice_past a now rest (d ∷ ds) (omega (arith, le, now_long))))
            ∙ ap (λ (k : ℕ). front ++ splice_from k (now ++ rest) (d ∷ ds)) (sym e)
            ∙ sym (splice_past at front (now ++ rest) (d ∷ ds) (omega (arith, e, le)))

    -- ---- together they ascend

    beside_all : (ds : List Cut) → AllByRecursion (Beside a y) ds → (c : Cut) → a < c.at → end_of c ≤ a + x → AllByRecursion (ApartFrom c) (map (cut_old a m n) ds)
    beside_all [] h c low high = tt
    beside_all (d ∷ ds) h c low high = (one h.0, beside_all ds h.1 c low high)
      where
        one : Beside a y d → ApartFrom c (cut_old a m n d)
        one (inl le) = inr (omega (arith, le, low, before_at d.at (omega (arith, le))))
        one (inr le) = inl (omega (arith, le, high, behind_at d.at le, grown))

    ends_all : (from end : ℕ) (cs : List Cut) → Ascend from cs end → AllByRecursion (λ c. end_of c ≤ end) cs
    ends_all from end [] asc = tt
    ends_all from end (c ∷ cs) asc = (last (end_of c) cs asc.1, ends_all (end_of c) end cs asc.1)
      where
        last : (from : ℕ) (cs : List Cut) → Ascend from cs end → from ≤ end
        last from [] asc = asc
        last from (c ∷ cs) asc = omega (arith, asc.0, last (end_of c) cs asc.1)

    pub all_beside : (ds : List Cut) → AllByRecursion (Beside a y) ds → AllApart cs (map (cut_old a m n) ds)
    all_beside ds h = go cs behind (ends_all a (a + x) cs inside)
      where
        go : (bs : List Cut) → AllByRecursion (λ c. a < c.at) bs → AllByRecursion (λ c. end_of c ≤ a + x) bs → AllByRecursion (λ c. AllByRecursion (ApartFrom c) (map (cut_old a m n) ds)) bs
        go [] k l = tt
        go (c ∷ bs) k l = (beside_all ds h c k.0 l.0, go bs k.1 l.1)

    lower : (from to : ℕ) (bs : List Cut) → from ≤ to → Ascend a bs from → Ascend 0 bs to
    lower from to [] le asc = omega arith
    lower from to (c ∷ bs) le asc = (omega arith, up (end_of c) bs asc.1)
      where
        up : (low : ℕ) (bs : List Cut) → Ascend low bs from → Ascend low bs to
        up low [] asc = omega (arith, asc, le)
        up low (c ∷ bs) asc = (asc.0, up (end_of c) bs asc.1)

    pub composed_ascends : (end to : ℕ) (ds : List Cut) → a + y ≤ end → to + n ≡ end + m → Ascend 0 ds end → AllByRecursion (Beside a y) ds → Ascend 0 (put_cuts cs (map (cut_old a m n) ds)) to
    composed_ascends end to ds far same asc h =
        merged_ascends to cs (map (cut_old a m n) ds) (lower (a + x) to cs (omega (arith, far, same, grown)) inside) (old_ascend 0 0 end to ds far same (inl (omega arith, omega arith)) asc h) (all_beside ds h)

    -- ---- where they shift a place

    -- how a place stands to a span, before and then
    record Alike (p q : ℕ) (d : Cut) : Type 0 where
      ended : leb (end_of d) q ≡ leb (end_of (cut_old a m n d)) p
      out : ((q < d.at) ⊎ (end_of d ≤ q)) → (p < (cut_old a m n d).at) ⊎ (end_of (cut_old a m n d) ≤ p)

    same_yes : (i j : ℕ) (k l : ℕ) → i ≤ j → k ≤ l → leb i j ≡ leb k l
    same_yes i j k l h g = le-leb i j h ∙ sym (le-leb k l g)

    same_no : (i j : ℕ) (k l : ℕ) → j < i → l < k → leb i j ≡ leb k l
    same_no i j k l h g = lt-leb i j h ∙ sym (lt-leb k l g)

    -- places before the range, in it, and behind it
    abbrev Stands : ℕ → ℕ → Type 0
    Stands p q = ((p ≤ a) × (q ≡ p)) ⊎ (((a < p) × (p < a + x) × (a ≤ q) × (q < a + y)) ⊎ ((a + x ≤ p) × (q + x ≡ p + y)))

    alike : (p q : ℕ) → Stands p q → (d : Cut) → Beside a y d → Alike p q d
    alike p q (inl (lp, e)) d (inl le) =
        let b = before_at d.at (omega (arith, le)) in
        record { ended = ap (leb (end_of d)) e ∙ ap (λ (k : ℕ). leb (k + d.len) p) (sym b); out = λ o. turn o }
      where
        turn : ((q < d.at) ⊎ (end_of d ≤ q)) → (p < (cut_old a m n d).at) ⊎ (end_of (cut_old a m n d) ≤ p)
        turn (inl h) = inl (omega (arith, h, e, before_at d.at (omega (arith, le))))
        turn (inr h) = inr (omega (arith, h, e, before_at d.at (omega (arith, le))))
    alike p q (inl (lp, e)) d (inr le) =
        let b = behind_at d.at le in
        record { ended = same_no (end_of d) q (end_of (cut_old a m n d)) p (omega (arith, e, lp, le, new)) (omega (arith, b, lp, le, grown, some)); out = λ o. inl (omega (arith, b, lp, le, grown, some)) }
    alike p q (inr (inl (lp, hp, lq, hq))) d (inl le) =
        let b = before_at d.at (omega (arith, le)) in
        record { ended = same_yes (end_of d) q (end_of (cut_old a m n d)) p (omega (arith, le, lq)) (omega (arith, b, le, lp)); out = λ o. inr (omega (arith, b, le, lp)) }
    alike p q (inr (inl (lp, hp, lq, hq))) d (inr le) =
        let b = behind_at d.at le in
        record { ended = same_no (end_of d) q (end_of (cut_old a m n d)) p (omega (arith, le, hq)) (omega (arith, b, le, hp, grown)); out = λ o. inl (omega (arith, b, le, hp, grown)) }
    alike p q (inr (inr (lp, e))) d (inl le) =
        let b = before_at d.at (omega (arith, le)) in
        record { ended = same_yes (end_of d) q (end_of (cut_old a m n d)) p (omega (arith, le, lp, e, new)) (omega (arith, b, le, lp)); out = λ o. inr (omega (arith, b, le, lp)) }
    alike p q (inr (inr (lp, e))) d (inr le) = by (cases_lt q (end_of d))
      where
        b : at_old a m n d.at ≡ (d.at + m) - n
        b = behind_at d.at le

        turn : ((q < d.at) ⊎ (end_of d ≤ q)) → (p < (cut_old a m n d).at) ⊎ (end_of (cut_old a m n d) ≤ p)
        turn (inl h) = inl (omega (arith, h, e, b, grown, le))
        turn (inr h) = inr (omega (arith, h, e, b, grown, le))

        by : (q < end_of d) ⊎ (end_of d ≤ q) → Alike p q d
        by (inl h) = record { ended = same_no (end_of d) q (end_of (cut_old a m n d)) p h (omega (arith, h, e, b, grown, le)); out = turn }
        by (inr h) = record { ended = same_yes (end_of d) q (end_of (cut_old a m n d)) p h (omega (arith, h, e, b, grown, le)); out = turn }

    same_count : (p q : ℕ) → Stands p q → (ds : List Cut) → AllByRecursion (Beside a y) ds → (gained (map (cut_old a m n) ds) p ≡ gained ds q) × (lost (map (cut_old a m n) ds) p ≡ lost ds q)
    same_count p q s [] h = (refl, refl)
    same_count p q s (d ∷ ds) h = go (cases_lt q (end_of d)) (same_count p q s ds h.1)
      where
        t : leb (end_of d) q ≡ leb (end_of (cut_old a m n d)) p
        t = (alike p q s d h.0).ended

        go : (q < end_of d) ⊎ (end_of d ≤ q) → (gained (map (cut_old a m n) ds) p ≡ gained ds q) × (lost (map (cut_old a m n) ds) p ≡ lost ds q)
            → (gained (cut_old a m n d ∷ map (cut_old a m n) ds) p ≡ gained (d ∷ ds) q) × (lost (cut_old a m n d ∷ map (cut_old a m n) ds) p ≡ lost (d ∷ ds) q)
        go (inl lt) again =
            let u = cut_open d ds q lt in
            let v = cut_open (cut_old a m n d) (map (cut_old a m n) ds) p (leb-false (end_of (cut_old a m n d)) p (sym t ∙ lt-leb (end_of d) q lt)) in
            (v.0 ∙ sym u.0, v.1 ∙ sym u.1)
        go (inr le) again =
            let u = before_lost d ds q le in
            let v = before_lost (cut_old a m n d) (map (cut_old a m n) ds) p (leb-true (end_of (cut_old a m n d)) p (sym t ∙ le-leb (end_of d) q le)) in
            (omega (arith, u.0, v.0, again.0), omega (arith, u.1, v.1, again.1))

    out_count : (p q : ℕ) → Stands p q → (ds : List Cut) → AllByRecursion (Beside a y) ds → Outside ds q → Outside (map (cut_old a m n) ds) p
    out_count p q s [] h o = tt
    out_count p q s (d ∷ ds) h o = ((alike p q s d h.0).out o.0, out_count p q s ds h.1 o.1)

    none_yet : (p : ℕ) (bs : List Cut) → AllByRecursion (λ c. p < end_of c) bs → (gained bs p ≡ 0) × (lost bs p ≡ 0)
    none_yet p [] h = (refl, refl)
    none_yet p (c ∷ bs) h = cut_open c bs p h.0

    stands : Block a a (a + x) (a + y) cs → (p : ℕ) → Outside cs p → Stands p (shift cs p)
    stands block p out = go (cases_lt a p) (cases_lt p (a + x))
      where
        open_all : p ≤ a → (bs : List Cut) → AllByRecursion (λ c. a < c.at) bs → AllByRecursion (λ c. p < end_of c) bs
        open_all le [] k = tt
        open_all le (c ∷ bs) k = (omega (arith, le, k.0), open_all le bs k.1)

        go : (a < p) ⊎ (p ≤ a) → (p < a + x) ⊎ (a + x ≤ p) → Stands p (shift cs p)
        go (inr le) s = let z = none_yet p cs (open_all le cs behind) in inl (le, omega (arith, z.0, z.1))
        go (inl lt) (inr le) = let z = behind_block a a (a + x) (a + y) p cs block le in inr (inr (le, omega (arith, z.1)))
        go (inl lt) (inl high) =
            let low = lost_low a (a + x) cs p inside out (omega (arith, lt)) in
            let z = behind_block a a (a + x) (a + y) (a + x) cs block (omega arith) in
            let less = shift_order a (a + x) cs p (a + x) inside out z.0 (omega (arith, lt)) high in
            inr (inl (lt, high, omega (arith, low), omega (arith, less, z.1)))

    pub out_both : Block a a (a + x) (a + y) cs → (p : ℕ) (ds : List Cut) → AllByRecursion (Beside a y) ds → Outside cs p → Outside ds (shift cs p) → Outside (put_cuts cs (map (cut_old a m n) ds)) p
    out_both block p ds h o u = put_out cs (map (cut_old a m n) ds) o (out_count p (shift cs p) (stands block p o) ds h u)
      where
        one : (c : Cut) (es : List Cut) → ((p < c.at) ⊎ (end_of c ≤ p)) → Outside es p → Outside (put_cut c es) p
        one c [] i k = (i, tt)
        one c (d ∷ es) i k = go (leb (end_of c) d.at) (one c es i k.1)
          where
            go : (t : Bool) → Outside (put_cut c es) p → Outside (cond t (c ∷ (d ∷ es)) (d ∷ put_cut c es)) p
            go true again = (i, k)
            go false again = (k.0, again)

        put_out : (bs es : List Cut) → Outside bs p → Outside es p → Outside (put_cuts bs es) p
        put_out [] es i k = k
        put_out (c ∷ bs) es i k = one c (put_cuts bs es) i.0 (put_out bs es i.1 k)

    -- what is in no span of both is in none of the first
    pub out_first : (p : ℕ) (bs es : List Cut) → Outside (put_cuts bs es) p → Outside bs p
    out_first p [] es o = tt
    out_first p (c ∷ bs) es o = let z = one (put_cuts bs es) o in (z.0, out_first p bs es z.1)
      where
        one : (fs : List Cut) → Outside (put_cut c fs) p → ((p < c.at) ⊎ (end_of c ≤ p)) × Outside fs p
        one [] o = (o.0, tt)
        one (d ∷ fs) o = go (leb (end_of c) d.at) o (λ u. one fs u)
          where
            go : (t : Bool) → Outside (cond t (c ∷ (d ∷ fs)) (d ∷ put_cut c fs)) p → (Outside (put_cut c fs) p → ((p < c.at) ⊎ (end_of c ≤ p)) × Outside fs p) → ((p < c.at) ⊎ (end_of c ≤ p)) × Outside (d ∷ fs) p
            go true u again = (u.0, u.1)
            go false u again = let z = again u.1 in (z.0, (u.0, z.1))

    -- spans put among others count together
    put_sum : (p from end : ℕ) (c : Cut) (es : List Cut) → Ascend from es end → AllByRecursion (ApartFrom c) es
        → (gained (put_cut c es) p ≡ gained (c ∷ []) p + gained es p) × (lost (put_cut c es) p ≡ lost (c ∷ []) p + lost es p)
    put_sum p from end c [] asc h = (omega arith, omega arith)
    put_sum p from end c (d ∷ es) asc h = go (leb (end_of c) d.at) refl h.0 (put_sum p (end_of d) end c es asc.1 h.1) (cases_lt p (end_of c)) (cases_lt p (end_of d))
      where
        go : (t : Bool) → leb (end_of c) d.at ≡ t → ApartFrom c d → (gained (put_cut c es) p ≡ gained (c ∷ []) p + gained es p) × (lost (put_cut c es) p ≡ lost (c ∷ []) p + lost es p)
            → (p < end_of c) ⊎ (end_of c ≤ p) → (p < end_of d) ⊎ (end_of d ≤ p)
            → (gained (cond t (c ∷ (d ∷ es)) (d ∷ put_cut c es)) p ≡ gained (c ∷ []) p + gained (d ∷ es) p) × (lost (cond t (c ∷ (d ∷ es)) (d ∷ put_cut c es)) p ≡ lost (c ∷ []) p + lost (d ∷ es) p)
        go true t s again (inr le) q = let u = before_lost c (d ∷ es) p le in let v = before_lost c [] p le in (omega (arith, u.0, v.0), omega (arith, u.1, v.1))
        go true t s again (inl lt) q =
            let u = cut_open c (d ∷ es) p lt in
            let v = cut_open c [] p lt in
            let w = cut_open d es p (omega (arith, lt, leb-true (end_of c) d.at t)) in
            (omega (arith, u.0, v.0, w.0), omega (arith, u.1, v.1, w.1))
        go false t (inl s) again r q = absurd (omega (arith, s, leb-false (end_of c) d.at t))
        go false t (inr s) again r (inr le) = let u = before_lost d (put_cut c es) p le in let v = before_lost d es p le in (omega (arith, u.0, v.0, again.0), omega (arith, u.1, v.1, again.1))
        go false t (inr s) again r (inl lt) =
            let u = cut_open d (put_cut c es) p lt in
            let v = cut_open d es p lt in
            let w = cut_open c [] p (omega (arith, lt, s)) in
            (omega (arith, u.0, v.0, w.0), omega (arith, u.1, v.1, w.1))

    cons_sum : (p end : ℕ) (c : Cut) (bs : List Cut) → Ascend (end_of c) bs end → (gained (c ∷ bs) p ≡ gained (c ∷ []) p + gained bs p) × (lost (c ∷ bs) p ≡ lost (c ∷ []) p + lost bs p)
    cons_sum p end c bs asc = go (cases_lt p (end_of c))
      where
        rest : p < end_of c → (bs : List Cut) → Ascend (end_of c) bs end → (gained bs p ≡ 0) × (lost bs p ≡ 0)
        rest lt [] asc = (refl, refl)
        rest lt (b ∷ bs) asc = cut_open b bs p (omega (arith, lt, asc.0))

        go : (p < end_of c) ⊎ (end_of c ≤ p) → (gained (c ∷ bs) p ≡ gained (c ∷ []) p + gained bs p) × (lost (c ∷ bs) p ≡ lost (c ∷ []) p + lost bs p)
        go (inl lt) = let u = cut_open c bs p lt in let v = cut_open c [] p lt in let w = rest lt bs asc in (omega (arith, u.0, v.0, w.0), omega (arith, u.1, v.1, w.1))
        go (inr le) = let u = before_lost c bs p le in let v = before_lost c [] p le in (omega (arith, u.0, v.0), omega (arith, u.1, v.1))

    sums : (p from end to : ℕ) (bs es : List Cut) → Ascend from bs end → Ascend 0 (put_cuts bs es) to → Ascend 0 es to → AllApart bs es → end ≤ to
        → (gained (put_cuts bs es) p ≡ gained bs p + gained es p) × (lost (put_cuts bs es) p ≡ lost bs p + lost es p)
    sums p from end to [] es asc both asc2 h le = (omega arith, omega arith)
    sums p from end to (c ∷ bs) es asc both asc2 h le =
        let rest : Ascend 0 bs to = raise (end_of c) bs asc.1 in
        let more = merged_ascends to bs es rest asc2 h.1 in
        let apart = put_both (ApartFrom c) bs es (firsts bs (all_low (end_of c) end bs asc.1)) h.0 in
        let one = put_sum p 0 to c (put_cuts bs es) more apart in
        let again = sums p (end_of c) end to bs es asc.1 more asc2 h.1 le in
        let cons = cons_sum p end c bs asc.1 in
        (omega (arith, one.0, again.0, cons.0), omega (arith, one.1, again.1, cons.1))
      where
        up : (low : ℕ) (bs : List Cut) → Ascend low bs end → Ascend low bs to
        up low [] a = omega (arith, a, le)
        up low (b ∷ bs) a = (a.0, up (end_of b) bs a.1)

        raise : (low : ℕ) (bs : List Cut) → Ascend low bs end → Ascend 0 bs to
        raise low [] a = omega arith
        raise low (b ∷ bs) a = (omega arith, up (end_of b) bs a.1)

        firsts : (bs : List Cut) → AllByRecursion (λ d. end_of c ≤ d.at) bs → AllByRecursion (ApartFrom c) bs
        firsts [] k = tt
        firsts (b ∷ bs) k = (inl k.0, firsts bs k.1)

    -- They shift a place as one after the other.
    pub composed_shifts : Block a a (a + x) (a + y) cs → (end to : ℕ) (ds : List Cut) → a + y ≤ end → to + n ≡ end + m → Ascend 0 ds end → AllByRecursion (Beside a y) ds
        → (p : ℕ) → Outside (put_cuts cs (map (cut_old a m n) ds)) p → shift (put_cuts cs (map (cut_old a m n) ds)) p ≡ shift ds (shift cs p)
    composed_shifts block end to ds far same asc h p o =
        let old = old_ascend 0 0 end to ds far same (inl (omega arith, omega arith)) asc h in
        let out = out_first p cs (map (cut_old a m n) ds) o in
        let all = sums p a (a + x) to cs (map (cut_old a m n) ds) inside (composed_ascends end to ds far same asc h) old (all_beside ds h) (omega (arith, far, same, grown)) in
        let count = same_count p (shift cs p) (stands block p out) ds h in
        let low = lost_low 0 (a + x) cs p (lower (a + x) (a + x) cs (omega arith) inside) out (omega arith) in
        omega (arith, all.0, all.1, count.0, count.1, low)
