-- Spans of which some are left out that put back what stands there: the same is made of the file, and places go where they went.
use Rattle.std.proofs.Common.{◌≡◌, ◌∙◌, ◌⊎◌, ℕ, ◌+◌, ◌-◌, ◌≤◌, ◌<◌, Bool, true, false, cond, leb, List, [], ◌∷◌, ◌++◌, length, take, drop, refl, sym, ap, subst, arith, inl, inr, length-take, length-drop}
use Rattle.std.specs.List.{AllByRecursion}
use Rattle.std.proofs.lemmas.Bool.{cases_lt, cond-false, cond-true, le-leb, leb-true, lt-leb}
use Rattle.container_model.specs.Splice.{Ascend, Cut, Outside, end_of, gained, lost, shift, splice}
use Rattle.container_model.proofs.Splice.{before_lost}
use Rattle.avi_model.specs.NewFile.{put_cut, put_cuts}
use Rattle.avi_plan.specs.Drops.{Drops, IsStill}
use Rattle.avi_plan.proofs.Refined.{Behind, cut_more, left, piece, refine_none}

pub ascend_low : (p q end : ℕ) (cs : List Cut) → p ≤ q → Ascend q cs end → Ascend p cs end
ascend_low p q end [] le h = omega (arith, le, h)
ascend_low p q end (c ∷ cs) le h = (omega (arith, le, h.0), h.1)

pub ascend_high : (p end : ℕ) (cs : List Cut) → Ascend p cs end → p ≤ end
ascend_high p end [] h = h
ascend_high p end (c ∷ cs) h = omega (arith, h.0, ascend_high (end_of c) end cs h.1)

pub behind_first : (p end : ℕ) (cs : List Cut) → Ascend p cs end → Behind p cs
behind_first p end [] h = tt
behind_first p end (c ∷ cs) h = h.0

none_before : (p from end : ℕ) (cs : List Cut) → p < from → Ascend from cs end → (gained cs p ≡ 0) × (lost cs p ≡ 0)
none_before p from end [] lt h = (refl, refl)
none_before p from end (c ∷ cs) lt h =
    let no : leb (end_of c) p ≡ false = lt-leb (end_of c) p (omega (arith, lt, h.0)) in
    (rw (no, gained) refl, rw (no, lost) refl)

-- ---- a span more in both

-- before spans that stand behind it
put_first : (c : Cut) (ds : List Cut) → Behind (end_of c) ds → put_cut c ds ≡ c ∷ ds
put_first c [] h = refl
put_first c (d ∷ ds) h = cond-true (leb (end_of c) d.at) (c ∷ (d ∷ ds)) (d ∷ put_cut c ds) (le-leb (end_of c) d.at h)

-- the others ascend without it
pub put_less : (c : Cut) (from end : ℕ) (xs : List Cut) → Ascend from (put_cut c xs) end → Ascend from xs end
put_less c from end [] h = omega (arith, h.0, h.1)
put_less c from end (x ∷ xs) h = go (leb (end_of c) x.at) h (λ k. put_less c (end_of x) end xs k)
  where
    go : (t : Bool) → Ascend from (cond t (c ∷ (x ∷ xs)) (x ∷ put_cut c xs)) end → (Ascend (end_of x) (put_cut c xs) end → Ascend (end_of x) xs end) → Ascend from (x ∷ xs) end
    go true h again = (omega (arith, h.0, h.1.0), h.1.1)
    go false h again = (h.0, again h.1)

pub puts_less : (cs : List Cut) (from end : ℕ) (xs : List Cut) → Ascend from (put_cuts cs xs) end → Ascend from xs end
puts_less [] from end xs h = h
puts_less (c ∷ cs) from end xs h = puts_less cs from end xs (put_less c from end (put_cuts cs xs) h)

-- behind one that stands before all
pub puts_behind : (d : Cut) (cs ds : List Cut) → AllByRecursion (λ c. d.at < end_of c) cs → put_cuts cs (d ∷ ds) ≡ d ∷ put_cuts cs ds
puts_behind d [] ds h = refl
puts_behind d (c ∷ cs) ds h =
    ap (put_cut c) (puts_behind d cs ds h.1) ∙ cond-false (leb (end_of c) d.at) (c ∷ (d ∷ put_cuts cs ds)) (d ∷ put_cut c (put_cuts cs ds)) (lt-leb (end_of c) d.at h.0)

module _ (b : List ℕ) where
  pub drops_same : (cs : List Cut) → Drops b cs cs
  drops_same [] = refl
  drops_same (c ∷ cs) = inr (cs, refl, drops_same cs)

  pub drops_both : (xs ys us vs : List Cut) → Drops b xs ys → Drops b us vs → Drops b (xs ++ us) (ys ++ vs)
  drops_both [] ys us vs d e = subst (λ (ds : List Cut). Drops b us (ds ++ vs)) (sym d) e
  drops_both (x ∷ xs) ys us vs (inl h) e = inl (h.0, drops_both xs ys us vs h.1 e)
  drops_both (x ∷ xs) ys us vs (inr h) e = inr (h.0 ++ vs, ap (λ (ds : List Cut). ds ++ vs) h.1, drops_both xs h.0 us vs h.2 e)

  pub drops_ascend : (from end : ℕ) (cs ds : List Cut) → Drops b cs ds → Ascend from cs end → Ascend from ds end
  drops_ascend from end [] ds d h = subst (λ (ds : List Cut). Ascend from ds end) (sym d) h
  drops_ascend from end (c ∷ cs) ds (inl k) h = ascend_low from (end_of c) end ds (omega (arith, h.0)) (drops_ascend (end_of c) end cs ds k.1 h.1)
  drops_ascend from end (c ∷ cs) ds (inr k) h = subst (λ (ds : List Cut). Ascend from ds end) (sym k.1) (h.0, drops_ascend (end_of c) end cs k.0 k.2 h.1)

  pub drops_outside : (p : ℕ) (cs ds : List Cut) → Drops b cs ds → Outside cs p → Outside ds p
  drops_outside p [] ds d h = subst (λ (ds : List Cut). Outside ds p) (sym d) tt
  drops_outside p (c ∷ cs) ds (inl k) h = drops_outside p cs ds k.1 h.1
  drops_outside p (c ∷ cs) ds (inr k) h = subst (λ (ds : List Cut). Outside ds p) (sym k.1) (h.0, drops_outside p cs k.0 k.2 h.1)

  pub drops_all : (P : Cut → Type 0) (cs ds : List Cut) → Drops b cs ds → AllByRecursion P cs → AllByRecursion P ds
  drops_all P [] ds d h = subst (AllByRecursion P) (sym d) tt
  drops_all P (c ∷ cs) ds (inl k) h = drops_all P cs ds k.1 h.1
  drops_all P (c ∷ cs) ds (inr k) h = subst (AllByRecursion P) (sym k.1) (h.0, drops_all P cs k.0 k.2 h.1)

  drops_put : (c : Cut) (from end : ℕ) (xs ys : List Cut) → Ascend from xs end → Drops b xs ys → Drops b (put_cut c xs) (put_cut c ys)
  drops_put c from end [] ys h d = subst (λ (ds : List Cut). Drops b (c ∷ []) (put_cut c ds)) (sym d) (drops_same (c ∷ []))
  drops_put c from end (x ∷ xs) ys h (inl k) = go (leb (end_of c) x.at) refl (drops_put c (end_of x) end xs ys h.1 k.1)
    where
      go : (t : Bool) → leb (end_of c) x.at ≡ t → Drops b (put_cut c xs) (put_cut c ys) → Drops b (cond t (c ∷ (x ∷ xs)) (x ∷ put_cut c xs)) (put_cut c ys)
      go true e again =
          let low = ascend_low (end_of c) (end_of x) end ys (omega (arith, leb-true (end_of c) x.at e)) (drops_ascend (end_of x) end xs ys k.1 h.1) in
          inr (ys, put_first c ys (behind_first (end_of c) end ys low), inl k)
      go false e again = inl (k.0, again)
  drops_put c from end (x ∷ xs) ys h (inr k) = subst (λ (ds : List Cut). Drops b (put_cut c (x ∷ xs)) (put_cut c ds)) (sym k.1) (go (leb (end_of c) x.at) (drops_put c (end_of x) end xs k.0 h.1 k.2))
    where
      go : (t : Bool) → Drops b (put_cut c xs) (put_cut c k.0) → Drops b (cond t (c ∷ (x ∷ xs)) (x ∷ put_cut c xs)) (cond t (c ∷ (x ∷ k.0)) (x ∷ put_cut c k.0))
      go true again = inr (x ∷ k.0, refl, inr (k.0, refl, k.2))
      go false again = inr (put_cut c k.0, refl, again)

  pub drops_puts : (cs : List Cut) (from end : ℕ) (xs ys : List Cut) → Ascend from (put_cuts cs xs) end → Drops b xs ys → Drops b (put_cuts cs xs) (put_cuts cs ys)
  drops_puts [] from end xs ys h d = d
  drops_puts (c ∷ cs) from end xs ys h d = let k = put_less c from end (put_cuts cs xs) h in drops_put c from end (put_cuts cs xs) (put_cuts cs ys) k (drops_puts cs from end xs ys k d)

  still_put : (c : Cut) (xs ys : List Cut) → IsStill b c → Drops b xs ys → Drops b (put_cut c xs) ys
  still_put c [] ys s d = inl (s, d)
  still_put c (x ∷ xs) ys s d = go (leb (end_of c) x.at) d (λ k. still_put c xs ys s k) (λ es k. still_put c xs es s k)
    where
      go : (t : Bool) → Drops b (x ∷ xs) ys → (Drops b xs ys → Drops b (put_cut c xs) ys) → ((es : List Cut) → Drops b xs es → Drops b (put_cut c xs) es) → Drops b (cond t (c ∷ (x ∷ xs)) (x ∷ put_cut c xs)) ys
      go true d one more = inl (s, d)
      go false (inl k) one more = inl (k.0, one k.1)
      go false (inr k) one more = inr (k.0, k.1, more k.0 k.2)

  -- the other way: spans of which some drop, put among others that stay
  pub puts_drop : (from end : ℕ) (cs es ds : List Cut) → Ascend from (put_cuts cs ds) end → Drops b cs es → Drops b (put_cuts cs ds) (put_cuts es ds)
  puts_drop from end [] es ds h d = subst (λ (xs : List Cut). Drops b ds (put_cuts xs ds)) (sym d) (drops_same ds)
  puts_drop from end (c ∷ cs) es ds h (inl k) = still_put c (put_cuts cs ds) (put_cuts es ds) k.0 (puts_drop from end cs es ds (put_less c from end (put_cuts cs ds) h) k.1)
  puts_drop from end (c ∷ cs) es ds h (inr k) =
      let a = put_less c from end (put_cuts cs ds) h in
      subst (λ (xs : List Cut). Drops b (put_cut c (put_cuts cs ds)) (put_cuts xs ds)) (sym k.1) (drops_put c from end (put_cuts cs ds) (put_cuts k.0 ds) a (puts_drop from end cs k.0 ds a k.2))

  -- ---- the same is made, and places go where they went

  left_drops : (from : ℕ) (cs ds : List Cut) → Ascend from cs (length b) → Drops b cs ds → left b from cs ≡ left b from ds
  left_drops from [] ds h d = ap (left b from) (sym d)
  left_drops from (c ∷ cs) ds h (inl k) =
      let low = drops_ascend (end_of c) (length b) cs ds k.1 h.1 in
      let n : end_of c - c.at ≡ c.len = omega arith in
      cut_more b from c cs h.0 ∙ ap (λ (x : List ℕ). piece b from c.at ++ (c.bytes ++ x)) (left_drops (end_of c) cs ds h.1 k.1) ∙ sym (cut_more b from c ds h.0)
      ∙ sym (refine_none b from c ds h.0 (behind_first (end_of c) (length b) ds low) (k.0 ∙ ap (λ (q : ℕ). take q (drop c.at b)) (sym n)))
  left_drops from (c ∷ cs) ds h (inr k) =
      cut_more b from c cs h.0 ∙ ap (λ (x : List ℕ). piece b from c.at ++ (c.bytes ++ x)) (left_drops (end_of c) cs k.0 h.1 k.2) ∙ sym (cut_more b from c k.0 h.0) ∙ ap (left b from) (sym k.1)

  pub drops_splice : (cs ds : List Cut) → Ascend 0 cs (length b) → Drops b cs ds → splice b cs ≡ splice b ds
  drops_splice cs ds h d = left_drops 0 cs ds h d

  balanced : (p from : ℕ) (cs ds : List Cut) → Ascend from cs (length b) → Drops b cs ds → gained cs p + lost ds p ≡ gained ds p + lost cs p
  balanced p from [] ds h d = ap (λ (x : List Cut). 0 + lost x p) d ∙ ap (λ (x : List Cut). gained x p + 0) (sym d)
  balanced p from (c ∷ cs) ds h (inl k) = go (cases_lt p (end_of c)) (balanced p (end_of c) cs ds h.1 k.1)
    where
      ends : end_of c ≤ length b
      ends = ascend_high (end_of c) (length b) cs h.1

      long : length c.bytes ≡ c.len
      long = ap length k.0 ∙ omega (arith, ends, length-take c.len (drop c.at b), length-drop c.at b)

      go : (p < end_of c) ⊎ (end_of c ≤ p) → gained cs p + lost ds p ≡ gained ds p + lost cs p → gained (c ∷ cs) p + lost ds p ≡ gained ds p + lost (c ∷ cs) p
      go (inl lt) again =
          let no : leb (end_of c) p ≡ false = lt-leb (end_of c) p lt in
          let one : gained (c ∷ cs) p ≡ 0 = rw (no, gained) refl in
          let two : lost (c ∷ cs) p ≡ 0 = rw (no, lost) refl in
          let z = none_before p (end_of c) (length b) ds lt (drops_ascend (end_of c) (length b) cs ds k.1 h.1) in
          omega (arith, one, two, z.0, z.1)
      go (inr le) again = let z = before_lost c cs p le in omega (arith, z.0, z.1, again, long)
  balanced p from (c ∷ cs) ds h (inr k) = subst (λ (ds : List Cut). gained (c ∷ cs) p + lost ds p ≡ gained ds p + lost (c ∷ cs) p) (sym k.1) (go (cases_lt p (end_of c)) (balanced p (end_of c) cs k.0 h.1 k.2))
    where
      go : (p < end_of c) ⊎ (end_of c ≤ p) → gained cs p + lost k.0 p ≡ gained k.0 p + lost cs p → gained (c ∷ cs) p + lost (c ∷ k.0) p ≡ gained (c ∷ k.0) p + lost (c ∷ cs) p
      go (inl lt) again =
          let no : leb (end_of c) p ≡ false = lt-leb (end_of c) p lt in
          let g : (ds : List Cut) → gained (c ∷ ds) p ≡ 0 = λ ds. rw (no, gained) refl in
          let l : (ds : List Cut) → lost (c ∷ ds) p ≡ 0 = λ ds. rw (no, lost) refl in
          omega (arith, g cs, g k.0, l cs, l k.0)
      go (inr le) again = let z = before_lost c cs p le in let w = before_lost c k.0 p le in omega (arith, z.0, z.1, w.0, w.1, again)

  pub drops_shift : (cs ds : List Cut) (p : ℕ) → Ascend 0 cs (length b) → Drops b cs ds → shift cs p ≡ shift ds p
  drops_shift cs ds p h d = omega (arith, balanced p 0 cs ds h d)
