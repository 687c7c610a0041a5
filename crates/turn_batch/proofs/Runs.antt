-- One turn more.
use Rattle.std.proofs.Common.{◌≡◌, ◌∙◌, ◌⊎◌, inl, inr, ⊎_elim, ℕ, ◌+◌, ◌<◌, min, Bool, true, false, List, [], ◌∷◌, ◌++◌, length, take, set, get_or, Option, Some, None, refl, sym, ap, subst, arith}
use Rattle.std.specs.Prelude.{◌==◌, ◌||◌, ◌↔◌, IsTrue, is_some, if◌then◌else◌}
use Rattle.std.proofs.lemmas.Bool.{cases_eq, eq-eqb, ne_eqb}
use Rattle.std.proofs.lemmas.List.{get_or-set_other, length-set, take_more_set}
use Rattle.me_disk.specs.Disk.{Disk, Leaves}
use Rattle.me_disk.proofs.Runs.{Leaves-refl, rose_sooner}
use Rattle.part_tree.specs.Plans.{applied, CanRun}
use Rattle.file_swap.specs.Steps.{calls, bytes_by}
use Rattle.file_swap.specs.Midway.{SettlesEither}
use Rattle.file_swap.specs.Swap.{Swapping, Underway, IsSure}
use Rattle.file_swap.specs.declared.machine.Turn.{Turn}
use Rattle.file_swap.specs.declared.machine.Turn.TheVariants as turn
use Rattle.file_swap.proofs.Ends.{HasWritten, run_leaves, written_next, written_most, written_least}
use Rattle.turn_batch.specs.declared.member.BatchTurn.{BatchTurn}
use Rattle.turn_batch.specs.declared.member.Member.{Member}
use Rattle.turn_batch.specs.Members.{open_swap, is_open, some_open, is_more, told, OnSwap, IsReady, AllLow, Turned, TurnedBy, TurnedAt, ends, fails}
use Rattle.turn_batch.specs.Schedules.{Ready, Goes, Stopped, RanOpen, RanBy, Ran, turns_of}
use Rattle.turn_batch.proofs.Lows.{low_at}

-- ---- before the first turn

-- the swap of a member that makes turns
pub opened : (m : Member) (s : Swapping) → open_swap m ≡ Some s → (m.swap ≡ Some s) × (m.ended ≡ false)
opened m s is = go m.ended refl is
  where
    go : (t : Bool) → m.ended ≡ t → (if t then None else m.swap) ≡ Some s → (m.swap ≡ Some s) × (m.ended ≡ false)
    go true e h = absurd cc
    go false e h = (h, e)

first_open : (s : Swapping) (m : Member) (o : List ℕ) (a : Disk) → open_swap m ≡ Some s → s.made < calls s.plan → Underway s o a → RanOpen 0 s m o a a
first_open s m o a is low ready =
    let own = opened m s is in
    record {
      next = s;
      swap = own.0;
      plan = refl;
      state = inl (record {
        made = omega arith;
        underway = ready;
        sure = λ h. h;
        ended = (λ h. absurd cc, λ h. absurd (omega arith));
        written = refl;
      });
      crash = λ h. Leaves-refl (SettlesEither o (applied s.plan o)) a;
      tells = refl;
      later = omega arith;
      least = omega arith;
    }

first_by : {D : Type 0} (disk : D → Disk) (x : Option Swapping) (m : Member) (o : List ℕ) (d : D) → open_swap m ≡ x → OnSwap x (λ s. s.made < calls s.plan) → OnSwap x (λ s. Underway s o (disk d)) → RanBy disk x 0 m m o d d
first_by disk None m o d is low ready = (refl, refl)
first_by disk (Some s) m o d is low ready = (λ none. (refl, refl), first_open s m o (disk d) is low ready)

pub ran_first : {D : Type 0} (disk : D → Disk) (files : ℕ → List ℕ) (ms : List Member) (ds : List D) → AllLow ms → Ready disk files ms ds → Ran disk files [] ms ms ds ds
ran_first disk files ms ds low ready = record {
  members = refl;
  depots = refl;
  each = λ i m d here. first_by disk (open_swap (get_or ms i m)) (get_or ms i m) (files i) (get_or ds i d) refl (low_at ms i m low here).low (ready i m d here);
}

-- ---- a member that has ended stays

pub more_closed : (n : ℕ) (s : Swapping) (m : Member) (o : List ℕ) (a b : Disk) → RanOpen n s m o a b → m.ended ≡ true → RanOpen (n + 1) s m o a b
more_closed n s m o a b ran ended = record {
  next = ran.next;
  swap = ran.swap;
  plan = ran.plan;
  state = ⊎_elim
      (λ (goes : Goes n s ran.next m o a b).
      let all : ran.next.made ≡ calls s.plan = goes.ended.0 ended in
      let made = goes.made in
      inl (record { made = omega arith; underway = goes.underway; sure = goes.sure; ended = goes.ended; written = goes.written }))
      (λ (stopped : Stopped s ran.next m a b). inr stopped) ran.state;
  crash = ran.crash;
  tells = ran.tells;
  later = ran.later;
  least = ran.least;
}

-- ---- one turn more of one member

pub closed : (m : Member) (s : Swapping) → m.swap ≡ Some s → open_swap m ≡ None → m.ended ≡ true
closed m s swap is = go m.ended refl is
  where
    go : (t : Bool) → m.ended ≡ t → (if t then None else m.swap) ≡ None → m.ended ≡ true
    go true e h = e
    go false e h = absurd (let both = sym swap ∙ h in cc)

module _ (n : ℕ) (s : Swapping) (m : Member) (o : List ℕ) (a b : Disk) (ran : RanOpen n s m o a b) (cur : Swapping) (is : open_swap m ≡ Some cur) where
  pub here : ran.next ≡ cur
  here = some_same (sym ran.swap ∙ (opened m cur is).0)
    where
      some_same : {x y : Swapping} → Some x ≡ Some y → x ≡ y
      some_same h = cc

  -- no turn has answered Fault so far
  pub goes : Goes n s ran.next m o a b
  goes = ⊎_elim (λ (g : Goes n s ran.next m o a b). g) (λ (stopped : Stopped s ran.next m a b). absurd (let unended = (opened m cur is).1 in let shut = stopped.ended in cc)) ran.state

  pub plan : cur.plan ≡ s.plan
  plan = ap (λ (x : Swapping). x.plan) (sym here) ∙ ran.plan

  pub all_calls : calls cur.plan ≡ calls s.plan
  all_calls = ap calls plan

  pub made : cur.made ≡ min (s.made + n) (calls s.plan)
  made = ap (λ (x : Swapping). x.made) (sym here) ∙ goes.made

  -- calls are left
  pub some_left : cur.made < calls s.plan
  some_left =
      let so = made in
      ⊎_elim
      (λ (e : cur.made ≡ calls s.plan). absurd (let unended = (opened m cur is).1 in let shut = goes.ended.1 (ap (λ (x : Swapping). x.made) here ∙ e) in cc))
      (λ (ne : cur.made ≡ calls s.plan → ⊥). omega (arith, ne)) (cases_eq cur.made (calls s.plan))

  pub written : HasWritten s.plan s.made cur.made a b
  written = record { least = ran.least; exact = goes.written ∙ ap (λ (x : Swapping). a.written + bytes_by s.plan x.made) here }

  pub sure : IsSure s o a → IsSure cur o b
  sure h = subst (λ (x : Swapping). IsSure x o b) here (goes.sure h)

  module _ (b' : Disk) (was : Bool) (m' : Member) (answer : BatchTurn) (t : Turned cur was m' o b b' answer) where
    crash : IsSure s o a → Leaves (SettlesEither o (applied s.plan o)) a b'
    crash h = run_leaves s.plan cur.plan o cur.made a b b' plan (ran.crash h) (t.turned.crash (sure h))

    -- a turn that was Ok
    went : (t.turn ≡ turn.Fault → ⊥) → (IsTrue m'.ended ↔ (t.next.made ≡ calls s.plan)) → Goes (n + 1) s t.next m' o a b'
    went ok ended =
        let left = some_left in
        let so = made in
        let e = all_calls in
        let counts = t.turned.made ok in
        let next : t.next.made ≡ cur.made + 1 = omega arith in
        let far = written_next s.plan cur.plan s.made cur.made a b b' t.turn plan written t.turned.written ok t.next.made next in
        record { made = omega arith; underway = t.turned.underway ok; sure = λ h. t.turned.sure ok (sure h); ended = ended; written = far.exact }

    state : (x : Turn) → t.turn ≡ x → m' ≡ record { swap = Some t.next; ended = ends x; failed = fails x || was } → Goes (n + 1) s t.next m' o a b' ⊎ Stopped s t.next m' a b'
    state turn.More is_turn is_member =
        let unended : m'.ended ≡ false = ap (λ (x : Member). x.ended) is_member in
        let low = t.turned.more is_turn in
        let e = all_calls in
        inl (went (λ h. let both = sym is_turn ∙ h in cc) (λ h. absurd (let shut = h in cc), λ h. absurd (omega arith)))
    state turn.Done is_turn is_member =
        let shut : m'.ended ≡ true = ap (λ (x : Member). x.ended) is_member in
        inl (went (λ h. let both = sym is_turn ∙ h in cc) (λ h. t.turned.done is_turn ∙ all_calls, λ h. shut))
    state turn.Fault is_turn is_member =
        inr (record {
          ended = ap (λ (x : Member). x.ended) is_member;
          failed = ap (λ (x : Swapping). x.failed) (t.turned.fault is_turn);
          rose = rose_sooner a.faults b.faults b'.faults ran.later (t.turned.cause is_turn);
          written = written_most s.plan cur.plan s.made cur.made a b b' t.turn plan written t.turned.written (subst CanRun plan t.turned.runs);
        })

    pub more_open : RanOpen (n + 1) s m' o a b'
    more_open = record {
      next = t.next;
      swap = ap (λ (x : Member). x.swap) t.member;
      plan = t.turned.plan ∙ plan;
      state = state t.turn refl t.member;
      crash = crash;
      tells = t.turned.tells ∙ ran.tells;
      later = let x = ran.later in let y = t.turned.later in omega arith;
      least = written_least s.plan cur.plan s.made cur.made a b b' t.turn plan written t.turned.written;
    }

-- ---- by the swap that makes it

module _ {D : Type 0} (disk : D → Disk) (n : ℕ) (m0 m m' : Member) (o : List ℕ) (d0 d d' : D) (answer : BatchTurn) where
  more_from : (s : Swapping) → RanOpen n s m o (disk d0) (disk d) → (y : Option Swapping) → open_swap m ≡ y → TurnedBy disk y o m m' d d' answer → RanOpen (n + 1) s m' o (disk d0) (disk d')
  more_from s ran None is t =
      subst (λ (x : Member). RanOpen (n + 1) s x o (disk d0) (disk d')) (sym t.1)
      (subst (λ (x : D). RanOpen (n + 1) s m o (disk d0) (disk x)) (sym t.2) (more_closed n s m o (disk d0) (disk d) ran (closed m ran.next ran.swap is)))
  more_from s ran (Some cur) is t = more_open n s m o (disk d0) (disk d) ran cur is (disk d') m.failed m' answer t

  more_by : (x : Option Swapping) → open_swap m0 ≡ x → RanBy disk x n m0 m o d0 d → TurnedAt disk o m m' d d' answer → RanBy disk x (n + 1) m0 m' o d0 d'
  more_by None is ran t =
      let shut : TurnedBy disk None o m m' d d' answer = subst (λ (y : Option Swapping). TurnedBy disk y o m m' d d' answer) (ap open_swap ran.0 ∙ is) t in
      (shut.1 ∙ ran.0, shut.2 ∙ ran.1)
  more_by (Some s) is ran t = (λ none. absurd (omega arith), more_from s ran.1 (open_swap m) refl t)

ready_from : (n : ℕ) (s : Swapping) (m : Member) (o : List ℕ) (a b : Disk) → RanOpen n s m o a b → (y : Option Swapping) → open_swap m ≡ y → OnSwap y (λ x. Underway x o b)
ready_from n s m o a b ran None is = tt
ready_from n s m o a b ran (Some cur) is =
    let own = opened m cur is in
    let same : ran.next ≡ cur = some_same (sym ran.swap ∙ own.0) in
    ⊎_elim (λ (g : Goes n s ran.next m o a b). subst (λ (x : Swapping). Underway x o b) same g.underway)
    (λ (stopped : Stopped s ran.next m a b). absurd (let unended = own.1 in let shut = stopped.ended in cc)) ran.state
  where
    some_same : {x y : Swapping} → Some x ≡ Some y → x ≡ y
    some_same h = cc

pub ready_by : {D : Type 0} (disk : D → Disk) (x : Option Swapping) (n : ℕ) (m0 m : Member) (o : List ℕ) (d0 d : D) → open_swap m0 ≡ x → RanBy disk x n m0 m o d0 d → IsReady o m0 (disk d0) → IsReady o m (disk d)
ready_by disk None n m0 m o d0 d is ran ready =
    subst (λ (y : Option Swapping). OnSwap y (λ s. Underway s o (disk d))) (sym (ap open_swap ran.0 ∙ is)) tt
ready_by disk (Some s) n m0 m o d0 d is ran ready = ready_from n s m o (disk d0) (disk d) ran.1 (open_swap m) refl

-- some depot of these
pub some_depot : {D : Type 0} (ds : List D) → 0 < length ds → D
some_depot [] some = absurd (omega arith)
some_depot (d ∷ ds) some = d

-- a member that makes no turns
pub no_member : Member
no_member = record { swap = None; ended = true; failed = false }

-- ---- whether some make turns

pub or_false : (t : Bool) → (t || false) ≡ t
or_false true = refl
or_false false = refl

or_more : (a b c : Bool) → (a || (b || c)) ≡ ((a || b) || c)
or_more true b c = refl
or_more false b c = refl

pub some_more : (ms : List Member) (m : Member) → some_open (ms ++ m ∷ []) ≡ (some_open ms || is_open m)
some_more [] m = or_false (is_open m)
some_more (x ∷ ms) m = ap (λ (t : Bool). is_open x || t) (some_more ms m) ∙ or_more (is_open x) (some_open ms) (is_open m)

told_more : (s : Swapping) (was : Bool) (t : Turn) → is_open (record { swap = Some s; ended = ends t; failed = fails t || was }) ≡ is_more (told t)
told_more s was turn.More = refl
told_more s was turn.Done = refl
told_more s was turn.Fault = refl

open_by : {D : Type 0} (disk : D → Disk) (x : Option Swapping) (o : List ℕ) (m m' : Member) (d d' : D) (answer : BatchTurn) → open_swap m ≡ x → TurnedBy disk x o m m' d d' answer → is_open m' ≡ is_more answer
open_by disk None o m m' d d' answer is t = ap is_open t.1 ∙ ap (λ (y : Option Swapping). is_some y) is ∙ sym (ap is_more t.0)
open_by disk (Some s) o m m' d d' answer is t = ap is_open t.member ∙ told_more t.next m.failed t.turn ∙ sym (ap is_more t.is)

pub open_after : {D : Type 0} (disk : D → Disk) (o : List ℕ) (m m' : Member) (d d' : D) (answer : BatchTurn) → TurnedAt disk o m m' d d' answer → is_open m' ≡ is_more answer
open_after disk o m m' d d' answer t = open_by disk (open_swap m) o m m' d d' answer refl t

-- one member more was looked at
pub some_next : (ms ms' : List Member) (i : ℕ) (m' : Member) (was now : Bool) (answer : BatchTurn) → i < length ms → ms' ≡ set ms i m' → was ≡ some_open (take i ms) → is_open m' ≡ is_more answer → now ≡ (was || is_more answer)
    → now ≡ some_open (take (i + 1) ms')
some_next ms ms' i m' was now answer low is before told_so next =
    next ∙ (λ k. before k || sym told_so k) ∙ sym (some_more (take i ms) m') ∙ ap some_open (sym (ap (λ (xs : List Member). take (i + 1) xs) is ∙ take_more_set ms i m' low))

-- ---- all members

abbrev pub one_if : Bool → ℕ
one_if t = if t then 1 else 0

pub turns_more : (i k : ℕ) (ks : List ℕ) → turns_of i (ks ++ k ∷ []) ≡ turns_of i ks + one_if (k == i)
turns_more i k [] = omega arith
turns_more i k (x ∷ ks) = let h = turns_more i k ks in omega arith

module _ {D : Type 0} (disk : D → Disk) (files : ℕ → List ℕ) (schedule : List ℕ) (ms0 ms ms' : List Member) (ds0 ds ds' : List D) (ran : Ran disk files schedule ms0 ms ds0 ds) where
  pub ran_ready : Ready disk files ms0 ds0 → (i : ℕ) (m : Member) (d : D) → i < length ms → IsReady (files i) (get_or ms i m) (disk (get_or ds i d))
  ran_ready ready i m d low =
      let size = ran.members in
      let here : i < length ms0 = omega arith in
      ready_by disk (open_swap (get_or ms0 i m)) (turns_of i schedule) (get_or ms0 i m) (get_or ms i m) (files i) (get_or ds0 i d) (get_or ds i d) refl (ran.each i m d here) (ready i m d here)

  module _ (i : ℕ) (answer : BatchTurn) (turned : (m : Member) (d : D) → TurnedAt disk (files i) (get_or ms i m) (get_or ms' i m) (get_or ds i d) (get_or ds' i d) answer)
      (is_members : (m : Member) → ms' ≡ set ms i (get_or ms' i m)) (is_depots : (d : D) → ds' ≡ set ds i (get_or ds' i d)) where
    same_member : (j : ℕ) (m : Member) → (j ≡ i → ⊥) → get_or ms' j m ≡ get_or ms j m
    same_member j m other = ap (λ (xs : List Member). get_or xs j m) (is_members m) ∙ get_or-set_other ms i j (get_or ms' i m) m other

    same_depot : (j : ℕ) (d : D) → (j ≡ i → ⊥) → get_or ds' j d ≡ get_or ds j d
    same_depot j d other = ap (λ (xs : List D). get_or xs j d) (is_depots d) ∙ get_or-set_other ds i j (get_or ds' i d) d other

    each_more : (j : ℕ) (m : Member) (d : D) → j < length ms0 → RanBy disk (open_swap (get_or ms0 j m)) (turns_of j (schedule ++ i ∷ [])) (get_or ms0 j m) (get_or ms' j m) (files j) (get_or ds0 j d) (get_or ds' j d)
    each_more j m d low =
        let count = turns_more j i schedule in
        let was = ran.each j m d low in
        ⊎_elim
        (λ (here : j ≡ i).
        let one : one_if (i == j) ≡ 1 = ap one_if (eq-eqb i j (sym here)) in
        let n : turns_of j schedule + 1 ≡ turns_of j (schedule ++ i ∷ []) = omega arith in
        let now : TurnedAt disk (files j) (get_or ms j m) (get_or ms' j m) (get_or ds j d) (get_or ds' j d) answer =
        subst (λ (k : ℕ). TurnedAt disk (files k) (get_or ms k m) (get_or ms' k m) (get_or ds k d) (get_or ds' k d) answer) (sym here) (turned m d) in
        subst (λ (k : ℕ). RanBy disk (open_swap (get_or ms0 j m)) k (get_or ms0 j m) (get_or ms' j m) (files j) (get_or ds0 j d) (get_or ds' j d)) n
        (more_by disk (turns_of j schedule) (get_or ms0 j m) (get_or ms j m) (get_or ms' j m) (files j) (get_or ds0 j d) (get_or ds j d) (get_or ds' j d) answer (open_swap (get_or ms0 j m)) refl was now))
        (λ (other : j ≡ i → ⊥).
        let none : one_if (i == j) ≡ 0 = ap one_if (ne_eqb i j (λ h. other (sym h))) in
        let n : turns_of j schedule ≡ turns_of j (schedule ++ i ∷ []) = omega arith in
        subst (λ (k : ℕ). RanBy disk (open_swap (get_or ms0 j m)) k (get_or ms0 j m) (get_or ms' j m) (files j) (get_or ds0 j d) (get_or ds' j d)) n
        (subst (λ (x : Member). RanBy disk (open_swap (get_or ms0 j m)) (turns_of j schedule) (get_or ms0 j m) x (files j) (get_or ds0 j d) (get_or ds' j d)) (sym (same_member j m other))
        (subst (λ (x : D). RanBy disk (open_swap (get_or ms0 j m)) (turns_of j schedule) (get_or ms0 j m) (get_or ms j m) (files j) (get_or ds0 j d) x) (sym (same_depot j d other)) was)))
        (cases_eq j i)

    pub some_now : (d : D) (was now : Bool) → i < length ms → was ≡ some_open (take i ms) → now ≡ (was || is_more answer) → now ≡ some_open (take (i + 1) ms')
    some_now d was now low before next =
        some_next ms ms' i (get_or ms' i no_member) was now answer low (is_members no_member) before
        (open_after disk (files i) (get_or ms i no_member) (get_or ms' i no_member) (get_or ds i d) (get_or ds' i d) answer (turned no_member d)) next

    pub ran_more : length ds' ≡ length ds → Ran disk files (schedule ++ i ∷ []) ms0 ms' ds0 ds'
    ran_more depots = record {
      members = ap (λ (xs : List Member). length xs) (is_members no_member) ∙ length-set ms i (get_or ms' i no_member) ∙ ran.members;
      depots = depots ∙ ran.depots;
      each = each_more;
    }
