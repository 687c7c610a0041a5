-- One round more, and how many turns are left.
use Rattle.std.proofs.Common.{◌≡◌, ◌∙◌, ◌⊎◌, inl, inr, ⊎_elim, ℕ, zero, suc, ◌+◌, ◌-◌, ◌<◌, ◌≤◌, Bool, true, false, List, [], ◌∷◌, ◌++◌, length, get_or, Option, Some, None, refl, sym, ap, subst, arith}
use Rattle.std.specs.Prelude.{◌==◌, ◌||◌, is_some, if◌then◌else◌}
use Rattle.std.proofs.lemmas.Bool.{eq-eqb, ne_eqb}
use Rattle.me_disk.specs.Disk.{Disk, Leaves}
use Rattle.me_disk.proofs.Runs.{Leaves-trans, rose_sooner}
use Rattle.part_tree.specs.declared.plan.Plan.{Plan}
use Rattle.part_tree.specs.Plans.{applied}
use Rattle.file_swap.specs.Steps.{calls, bytes_by, bytes_written}
use Rattle.file_swap.specs.Midway.{SettlesEither}
use Rattle.file_swap.specs.Swap.{Swapping}
use Rattle.turn_batch.specs.declared.member.Member.{Member}
use Rattle.turn_batch.specs.Members.{open_swap, is_open, some_open, AllLow, OnSwap}
use Rattle.turn_batch.specs.Schedules.{Ready, Goes, Stopped, RanBy, RanEach, RanOpen, Ran, each_once, turns_of}
use Rattle.turn_batch.proofs.Runs.{all_calls, goes, made, more_closed, closed, no_member, one_if, opened, plan, ran_first, ready_by, some_depot, some_left, sure, turns_more}

-- ---- a round is a turn of each

turns_none : (k i : ℕ) → k ≤ i → turns_of i (each_once k) ≡ 0
turns_none zero i high = refl
turns_none (suc k) i high =
    let more = turns_more i k (each_once k) in
    let none = turns_none k i (omega arith) in
    let other : one_if (k == i) ≡ 0 = ap one_if (ne_eqb k i (λ h. absurd (omega arith))) in
    omega arith

compare_to : (i k : ℕ) → (i ≡ k) ⊎ (i ≡ k → ⊥)
compare_to zero zero = inl refl
compare_to zero (suc k) = inr (λ h. absurd (omega arith))
compare_to (suc i) zero = inr (λ h. absurd (omega arith))
compare_to (suc i) (suc k) = ⊎_elim (λ e. inl (ap suc e)) (λ ne. inr (λ h. ne (omega arith))) (compare_to i k)

turns_next : (k i : ℕ) → (i < k → turns_of i (each_once k) ≡ 1) → i < suc k → turns_of i (each_once k ++ k ∷ []) ≡ 1
turns_next k i before low =
    let more = turns_more i k (each_once k) in
    ⊎_elim
    (λ (here : i ≡ k). let none = turns_none k i (omega arith) in let one : one_if (k == i) ≡ 1 = ap one_if (eq-eqb k i (sym here)) in omega arith)
    (λ (other : i ≡ k → ⊥). let once = before (omega (arith, other)) in let none : one_if (k == i) ≡ 0 = ap one_if (ne_eqb k i (λ h. other (sym h))) in omega arith)
    (compare_to i k)

turns_once : (k i : ℕ) → i < k → turns_of i (each_once k) ≡ 1
turns_once zero i low = absurd (omega arith)
turns_once (suc k) i low = turns_next k i (λ lower. turns_once k i lower) low

-- ---- one round more of a member

module _ (n : ℕ) (s : Swapping) (m : Member) (o : List ℕ) (a b c : Disk) (ran : RanOpen n s m o a b) (cur : Swapping) (is : open_swap m ≡ Some cur) (m' : Member) (t : RanOpen 1 cur m' o b c) where
  same : cur.plan ≡ s.plan
  same = plan n s m o a b ran cur is

  state : Goes (n + 1) s t.next m' o a c ⊎ Stopped s t.next m' a c
  unfolding same
  state =
      let before = goes n s m o a b ran cur is in
      let so = made n s m o a b ran cur is in
      let left = some_left n s m o a b ran cur is in
      let e = all_calls n s m o a b ran cur is in
      let behind : b.written + bytes_by s.plan s.made ≡ a.written + bytes_by s.plan cur.made = before_written in
      ⊎_elim
      (λ (g : Goes 1 cur t.next m' o b c).
      let counts = g.made in
      let w : c.written + bytes_by s.plan cur.made ≡ b.written + bytes_by s.plan t.next.made = subst (λ (p : Plan). c.written + bytes_by p cur.made ≡ b.written + bytes_by p t.next.made) same g.written in
      inl (record {
        made = omega arith;
        underway = g.underway;
        sure = λ h. g.sure (sure n s m o a b ran cur is h);
        ended = (λ h. g.ended.0 h ∙ e, λ h. g.ended.1 (h ∙ sym e));
        written = omega arith;
      }))
      (λ (stopped : Stopped cur t.next m' b c).
      let w : c.written + bytes_by s.plan cur.made ≤ b.written + bytes_written s.plan = subst (λ (p : Plan). c.written + bytes_by p cur.made ≤ b.written + bytes_written p) same stopped.written in
      inr (record {
        ended = stopped.ended;
        failed = stopped.failed;
        rose = rose_sooner a.faults b.faults c.faults ran.later stopped.rose;
        written = omega arith;
      })) t.state
    where
      next_is : ran.next ≡ cur
      next_is = some_same (sym ran.swap ∙ (opened m cur is).0)
        where
          some_same : {x y : Swapping} → Some x ≡ Some y → x ≡ y
          some_same h = cc

      before_written : b.written + bytes_by s.plan s.made ≡ a.written + bytes_by s.plan cur.made
      before_written = (goes n s m o a b ran cur is).written ∙ ap (λ (x : Swapping). a.written + bytes_by s.plan x.made) next_is

  pub round_open : RanOpen (n + 1) s m' o a c
  unfolding same state
  round_open = record {
    next = t.next;
    swap = t.swap;
    plan = t.plan ∙ same;
    state = state;
    crash = λ h. Leaves-trans (SettlesEither o (applied s.plan o)) a b c (ran.crash h) (subst (λ (p : Plan). Leaves (SettlesEither o (applied p o)) b c) same (t.crash (sure n s m o a b ran cur is h)));
    tells = t.tells ∙ ran.tells;
    later = let x = ran.later in let y = t.later in omega arith;
    least = let x = ran.least in let y = t.least in omega arith;
  }

module _ {D : Type 0} (disk : D → Disk) (n : ℕ) (m0 m m' : Member) (o : List ℕ) (d0 d d' : D) where
  round_from : (s : Swapping) → RanOpen n s m o (disk d0) (disk d) → (y : Option Swapping) → open_swap m ≡ y → RanBy disk y 1 m m' o d d' → RanOpen (n + 1) s m' o (disk d0) (disk d')
  round_from s ran None is t =
      subst (λ (x : Member). RanOpen (n + 1) s x o (disk d0) (disk d')) (sym t.0)
      (subst (λ (x : D). RanOpen (n + 1) s m o (disk d0) (disk x)) (sym t.1) (more_closed n s m o (disk d0) (disk d) ran (closed m ran.next ran.swap is)))
  round_from s ran (Some cur) is t = round_open n s m o (disk d0) (disk d) (disk d') ran cur is m' t.1

  round_by : (x : Option Swapping) → open_swap m0 ≡ x → RanBy disk x n m0 m o d0 d → RanBy disk (open_swap m) 1 m m' o d d' → RanBy disk x (n + 1) m0 m' o d0 d'
  round_by None is ran t =
      let shut : RanBy disk None 1 m m' o d d' = subst (λ (y : Option Swapping). RanBy disk y 1 m m' o d d') (ap open_swap ran.0 ∙ is) t in
      (shut.0 ∙ ran.0, shut.1 ∙ ran.1)
  round_by (Some s) is ran t = (λ none. absurd (omega arith), round_from s ran.1 (open_swap m) refl t)

-- ---- of all members

pub each_first : {D : Type 0} (disk : D → Disk) (files : ℕ → List ℕ) (ms : List Member) (ds : List D) → AllLow ms → Ready disk files ms ds → RanEach disk files 0 ms ms ds ds
each_first disk files ms ds low ready = record { members = refl; depots = refl; each = (ran_first disk files ms ds low ready).each }

module _ {D : Type 0} (disk : D → Disk) (files : ℕ → List ℕ) (n : ℕ) (ms0 ms ms' : List Member) (ds0 ds ds' : List D) (ran : RanEach disk files n ms0 ms ds0 ds) where
  pub each_ready : Ready disk files ms0 ds0 → Ready disk files ms ds
  each_ready ready i m d low =
      let size = ran.members in
      let here : i < length ms0 = omega arith in
      ready_by disk (open_swap (get_or ms0 i m)) n (get_or ms0 i m) (get_or ms i m) (files i) (get_or ds0 i d) (get_or ds i d) refl (ran.each i m d here) (ready i m d here)

  pub each_more : Ran disk files (each_once (length ms)) ms ms' ds ds' → RanEach disk files (n + 1) ms0 ms' ds0 ds'
  each_more round = record {
    members = round.members ∙ ran.members;
    depots = round.depots ∙ ran.depots;
    each = λ i m d low.
        let size = ran.members in
        let here : i < length ms = omega arith in
        let one = turns_once (length ms) i here in
        round_by disk n (get_or ms0 i m) (get_or ms i m) (get_or ms' i m) (files i) (get_or ds0 i d) (get_or ds i d) (get_or ds' i d) (open_swap (get_or ms0 i m)) refl (ran.each i m d low)
        (subst (λ (k : ℕ). RanBy disk (open_swap (get_or ms i m)) k (get_or ms i m) (get_or ms' i m) (files i) (get_or ds i d) (get_or ds' i d)) one (round.each i m d here));
  }

-- ---- how many turns are left

abbrev left_by : Option Swapping → ℕ
left_by None = 0
left_by (Some s) = calls s.plan - s.made

abbrev left_of : Member → ℕ
left_of m = left_by (open_swap m)

abbrev pub all_left : List Member → ℕ
all_left [] = 0
all_left (m ∷ ms) = left_of m + all_left ms

record Falls (m m' : Member) : Type 0 where
  least : left_of m' ≤ left_of m
  less : is_open m ≡ true → left_of m' < left_of m

all_fall : (ms ms' : List Member) → length ms' ≡ length ms → ((i : ℕ) → i < length ms → Falls (get_or ms i no_member) (get_or ms' i no_member)) → all_left ms' ≤ all_left ms
all_fall [] [] size f = omega arith
all_fall [] (x ∷ ms') size f = absurd (omega (arith, size))
all_fall (m ∷ ms) [] size f = absurd (omega (arith, size))
all_fall (m ∷ ms) (m' ∷ ms') size f =
    let first = (f 0 (omega arith)).least in
    let more = all_fall ms ms' (omega (arith, size)) (λ i low. f (suc i) (omega arith)) in
    omega arith

first_falls : (m m' : Member) (n n' : ℕ) (some : Bool) → Falls m m' → n' ≤ n → (some ≡ true → n' < n) → (t : Bool) → is_open m ≡ t → (t || some) ≡ true → left_of m' + n' < left_of m + n
first_falls m m' n n' some f least less true is open_one = let first = f.less is in omega arith
first_falls m m' n n' some f least less false is open_one = let first = f.least in let more = less open_one in omega arith

some_fall : (ms ms' : List Member) → length ms' ≡ length ms → ((i : ℕ) → i < length ms → Falls (get_or ms i no_member) (get_or ms' i no_member)) → some_open ms ≡ true → all_left ms' < all_left ms
some_fall [] ms' size f some = absurd cc
some_fall (m ∷ ms) [] size f some = absurd (omega (arith, size))
some_fall (m ∷ ms) (m' ∷ ms') size f some =
    let rest : (i : ℕ) → i < length ms → Falls (get_or ms i no_member) (get_or ms' i no_member) = λ i low. f (suc i) (omega arith) in
    first_falls m m' (all_left ms) (all_left ms') (some_open ms) (f 0 (omega arith)) (all_fall ms ms' (omega (arith, size)) rest) (λ more. some_fall ms ms' (omega (arith, size)) rest more) (is_open m) refl some

-- an ended member has none
ended_none : (m : Member) → m.ended ≡ true → left_of m ≡ 0
ended_none m is = ap (λ (t : Bool). left_by (if t then None else m.swap)) is

-- and one that goes on has those that its swap has
left_most : (m : Member) (s : Swapping) → m.swap ≡ Some s → left_of m ≤ calls s.plan - s.made
left_most m s is = go m.ended (ap (λ (x : Option Swapping). left_by (if m.ended then None else x)) is)
  where
    go : (t : Bool) → left_of m ≡ left_by (if t then None else Some s) → left_of m ≤ calls s.plan - s.made
    go true e = omega (arith, e)
    go false e = omega (arith, e)

falls_open : (s : Swapping) (m m' : Member) (o : List ℕ) (a b : Disk) → open_swap m ≡ Some s → s.made < calls s.plan → RanOpen 1 s m' o a b → Falls m m'
falls_open s m m' o a b is low t =
    let here : left_of m ≡ calls s.plan - s.made = ap left_by is in
    let less : left_of m' < left_of m =
    ⊎_elim
    (λ (g : Goes 1 s t.next m' o a b).
    let most = left_most m' t.next t.swap in
    let counts = g.made in
    let e : calls t.next.plan ≡ calls s.plan = ap calls t.plan in
    omega arith)
    (λ (stopped : Stopped s t.next m' a b). let none = ended_none m' stopped.ended in omega arith) t.state in
    record { least = omega arith; less = λ more. less }

falls_by : {D : Type 0} (disk : D → Disk) (x : Option Swapping) (m m' : Member) (o : List ℕ) (d d' : D) → open_swap m ≡ x → OnSwap x (λ s. s.made < calls s.plan) → RanBy disk x 1 m m' o d d' → Falls m m'
falls_by disk None m m' o d d' is low t = record {
  least = let e : left_of m' ≡ left_of m = ap left_of t.0 in omega arith;
  less = λ more. absurd (shut (sym (ap (λ (y : Option Swapping). is_some y) is) ∙ more));
}
  where
    shut : false ≡ true → ⊥
    shut e = absurd cc
falls_by disk (Some s) m m' o d d' is low t = falls_open s m m' o (disk d) (disk d') is low t.1

-- a member that makes turns after some has calls left
low_from : (n : ℕ) (s : Swapping) (m : Member) (o : List ℕ) (a b : Disk) → RanOpen n s m o a b → (y : Option Swapping) → open_swap m ≡ y → OnSwap y (λ x. x.made < calls x.plan)
low_from n s m o a b ran None is = tt
low_from n s m o a b ran (Some cur) is =
    let left = some_left n s m o a b ran cur is in
    let same = all_calls n s m o a b ran cur is in
    omega arith

low_by : {D : Type 0} (disk : D → Disk) (x : Option Swapping) (n : ℕ) (m0 m : Member) (o : List ℕ) (d0 d : D) → open_swap m0 ≡ x → RanBy disk x n m0 m o d0 d → OnSwap (open_swap m) (λ s. s.made < calls s.plan)
low_by disk None n m0 m o d0 d is ran = subst (λ (y : Option Swapping). OnSwap y (λ s. s.made < calls s.plan)) (sym (ap open_swap ran.0 ∙ is)) tt
low_by disk (Some s) n m0 m o d0 d is ran = low_from n s m o (disk d0) (disk d) ran.1 (open_swap m) refl

-- a round of some that make turns leaves fewer
pub fewer_left : {D : Type 0} (disk : D → Disk) (files : ℕ → List ℕ) (n : ℕ) (ms0 ms ms' : List Member) (ds0 ds ds' : List D) → length ds0 ≡ length ms0 → RanEach disk files n ms0 ms ds0 ds → some_open ms ≡ true
    → Ran disk files (each_once (length ms)) ms ms' ds ds' → all_left ms' < all_left ms
fewer_left disk files n ms0 ms ms' ds0 ds ds' size so some ran =
    let members = so.members in
    let depots = so.depots in
    some_fall ms ms' ran.members
    (λ i here.
    let d = some_depot ds (omega (arith, size)) in
    let low = low_by disk (open_swap (get_or ms0 i no_member)) n (get_or ms0 i no_member) (get_or ms i no_member) (files i) (get_or ds0 i d) (get_or ds i d) refl (so.each i no_member d (omega arith)) in
    falls_by disk (open_swap (get_or ms i no_member)) (get_or ms i no_member) (get_or ms' i no_member) (files i) (get_or ds i d) (get_or ds' i d) refl low
    (subst (λ (k : ℕ). RanBy disk (open_swap (get_or ms i no_member)) k (get_or ms i no_member) (get_or ms' i no_member) (files i) (get_or ds i d) (get_or ds' i d)) (turns_once (length ms) i here) (ran.each i no_member d here))) some
