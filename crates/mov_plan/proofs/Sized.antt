-- The spans of an edit with the one of the size of `moov`, by their numbers alone.
use Rattle.std.proofs.Common.{◌≡◌, ℕ, ◌+◌, ◌≤◌, Bool, true, false, cond, eqb, List, [], ◌∷◌, ◌++◌, refl, arith, inl}
use Rattle.std.specs.List.{AllByRecursion}
use Rattle.qt_atoms.specs.Walk.{header_len}
use Rattle.qt_atoms.specs.declared.header.SizeForm.{SizeForm}
use Rattle.qt_atoms.specs.declared.header.SizeForm.TheVariants.{Short, Long, ToEnd}
use Rattle.unit_plan.specs.declared.cut.CutAt.{CutAt}
use Rattle.unit_plan.specs.Cuts.{FitsIn, SpansAscend}
use Rattle.unit_plan.specs.Sized.{spliced_len}
use Rattle.unit_plan.proofs.Spans.{ascend_high, lost_low}
use Rattle.mov_plan.specs.Frame.{IsSoundMoov, body_len, size_by, size_cuts}
use Rattle.mov_plan.specs.Made.{IsKept}
use Rattle.mov_plan.specs.Moved.{IsKeptIn}
use Rattle.mov_plan.specs.declared.frame.MoovAt.{MoovAt}

pub ascend_low : (low from end : ℕ) (ks : List CutAt) → low ≤ from → SpansAscend from ks end → SpansAscend low ks end
ascend_low low from end [] le h = omega (arith, le, h)
ascend_low low from end (k ∷ ks) le h = (omega (arith, le, h.0), h.1, h.2)

spans_end : (from end : ℕ) (ks : List CutAt) → SpansAscend from ks end → from ≤ end
spans_end from end [] h = h
spans_end from end (k ∷ ks) h = omega (arith, h.0, spans_end (k.span.at + k.span.len) end ks h.2)

-- each span keeps no more bytes than it has, in a file that holds them all
pub kept_all : (from end : ℕ) (ks : List CutAt) → SpansAscend from ks end → AllByRecursion IsKept ks
kept_all from end [] h = tt
kept_all from end (k ∷ ks) h = (h.1, kept_all (k.span.at + k.span.len) end ks h.2)

pub kept_in_all : (from end len : ℕ) (ks : List CutAt) → end ≤ len → SpansAscend from ks end → AllByRecursion (IsKeptIn len) ks
kept_in_all from end len [] le h = tt
kept_in_all from end len (k ∷ ks) le h =
    let last = spans_end (k.span.at + k.span.len) end ks h.2 in
    ((h.1, omega (arith, le, last)), kept_in_all (k.span.at + k.span.len) end len ks le h.2)

-- ---- with the span of the size

module _ (at from end n : ℕ) (us : List CutAt) (h : SpansAscend from us end) where
  by_ascend : (s : SizeForm) → at + header_len s ≡ from → SpansAscend 0 (size_by s at n ++ us) end
  by_ascend Short e = (omega arith, omega arith, ascend_low (at + 4) from end us (omega (arith, e)) h)
  by_ascend Long e = (omega arith, omega arith, ascend_low ((at + 8) + 8) from end us (omega (arith, e)) h)
  by_ascend ToEnd e = ascend_low 0 from end us (omega arith) h

  by_len : (s : SizeForm) (len : ℕ) → at + header_len s ≡ from → end ≤ len → spliced_len len (size_by s at n ++ us) ≡ spliced_len len us
  by_len Short len e le = omega (arith, e, le, lost_low from end us h)
  by_len Long len e le = omega (arith, e, le, lost_low from end us h)
  by_len ToEnd len e le = refl

by_fits : (at n len : ℕ) (us : List CutAt) (s : SizeForm) → FitsIn len us → FitsIn len (size_by s at n ++ us)
by_fits at n len us Short f = (inl (omega arith), f)
by_fits at n len us Long f = (inl (omega arith), f)
by_fits at n len us ToEnd f = f

module _ (m : MoovAt) (sound : IsSoundMoov m) (n : ℕ) (us : List CutAt) (h : SpansAscend m.from us (m.end + m.behind.gap)) where
  inside : m.end + m.behind.gap ≤ m.len
  inside = omega (arith, sound.inside)

  pub framed_ascend : SpansAscend 0 (size_cuts m n ++ us) m.len
  framed_ascend = ascend_high 0 (m.end + m.behind.gap) m.len (size_cuts m n ++ us) inside (go (eqb n (body_len m)))
    where
      go : (t : Bool) → SpansAscend 0 (cond t [] (size_by m.form m.at n) ++ us) (m.end + m.behind.gap)
      go true = ascend_low 0 m.from (m.end + m.behind.gap) us (omega arith) h
      go false = by_ascend m.at m.from (m.end + m.behind.gap) n us h m.form sound.head

  pub units_ascend : SpansAscend 0 us m.len
  units_ascend = ascend_high 0 (m.end + m.behind.gap) m.len us inside (ascend_low 0 m.from (m.end + m.behind.gap) us (omega arith) h)

  pub framed_len : spliced_len m.len (size_cuts m n ++ us) ≡ spliced_len m.len us
  framed_len = go (eqb n (body_len m))
    where
      go : (t : Bool) → spliced_len m.len (cond t [] (size_by m.form m.at n) ++ us) ≡ spliced_len m.len us
      go true = refl
      go false = by_len m.at m.from (m.end + m.behind.gap) n us h m.form m.len sound.head inside

  pub framed_fits : FitsIn m.len us → FitsIn m.len (size_cuts m n ++ us)
  framed_fits f = go (eqb n (body_len m))
    where
      go : (t : Bool) → FitsIn m.len (cond t [] (size_by m.form m.at n) ++ us)
      go true = f
      go false = by_fits m.at n m.len us m.form f

pub size_kept : (m : MoovAt) (n : ℕ) → AllByRecursion IsKept (size_cuts m n)
size_kept m n = go (eqb n (body_len m)) m.form
  where
    go : (t : Bool) (f : SizeForm) → AllByRecursion IsKept (cond t [] (size_by f m.at n))
    go true f = tt
    go false Short = (omega arith, tt)
    go false Long = (omega arith, tt)
    go false ToEnd = tt
