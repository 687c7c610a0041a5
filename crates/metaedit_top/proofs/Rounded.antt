-- All files of a batch: before its rounds, and behind them.
use Rattle.std.proofs.Common.{◌≡◌, ℕ, zero, suc, ◌+◌, ◌≤◌, ◌<◌, List, [], ◌∷◌, length, map, get_or, Bool, true, false, Option, Some, None, Result, Ok, Err, refl, sym, ap, ◌∙◌, subst, arith, ⊎_elim}
use Rattle.std.specs.Prelude.{IsTrue, IfSome, ◌||◌, if◌then◌else◌}
use Rattle.me_disk.specs.Disk.{Disk, IsLawful, bytes_of}
use Rattle.part_tree.specs.declared.field.EditItem.{EditItem}
use Rattle.part_tree.specs.Plans.{Belongs}
use Rattle.file_swap.specs.Swap.{Swapping, Underway, fresh}
use Rattle.file_swap.proofs.Installs.{begins}
use Rattle.turn_batch.specs.declared.member.Member.{Member}
use Rattle.turn_batch.specs.Members.{AllFresh, OnSwap as OnTurned, fresh_member, is_open, open_swap, some_open}
use Rattle.turn_batch.specs.Schedules.{RanBy, RanEach, RanRounds, Ready}
use Rattle.metaedit_top.specs.declared.batch_end.FileEnd.{FileEnd}
use Rattle.metaedit_top.specs.declared.batch_end.FileEnd.TheVariants as end
use Rattle.metaedit_top.specs.declared.outcome.Prepared.{Prepared}
use Rattle.metaedit_top.specs.declared.outcome.Stop.{Stop}
use Rattle.metaedit_top.specs.declared.words.Command.TheVariants as command
use Rattle.metaedit_top.specs.declared.words.Request.{Request}
use Rattle.metaedit_top.specs.Batch.{Begun, BegunAll, EachEnds, EndsFile, EndsOrGoesOn, GoesOn, IsReadied, OfEach, Readies, SomeGoOn, end_behind, file_request, set_words, swap_in}
use Rattle.metaedit_top.specs.BatchWords.{BatchParts, batch_parts}
use Rattle.metaedit_top.specs.Changed.{IsFresh, OnSwap}
use Rattle.metaedit_top.specs.Words.{Text, edit_of, request}
use Rattle.metaedit_top.proofs.BatchRequests.{IsForm, file_at, form_in, set_request}
use Rattle.metaedit_top.proofs.Batches.{Left, left_of}

-- ---- before the rounds

get_map : {A B : Type 0} (f : A → B) (xs : List A) (i : ℕ) (x : A) (y : B) → i < length xs → get_or (map f xs) i y ≡ f (get_or xs i x)
get_map f [] i x y low = absurd (omega arith)
get_map f (z ∷ xs) zero x y low = refl
get_map f (z ∷ xs) (suc i) x y low = get_map f xs i x y (omega arith)

pub length_map : {A B : Type 0} (f : A → B) (xs : List A) → length (map f xs) ≡ length xs
length_map f [] = refl
length_map f (x ∷ xs) = ap suc (length_map f xs)

-- the files that stand there, by their numbers
abbrev pub files_of : {D : Type 0} → (D → Disk) → List D → ℕ → List ℕ
files_of disk ds i = get_or (map (λ d. bytes_of (disk d).slots.main) ds) i []

ready_swap : (q : Request) (a b : Disk) (p : Prepared) → IsReadied q a b p → b.tells ≡ a.tells → (x : Option Swapping) → p.swap ≡ x → OnSwap x IsFresh → (IsTrue a.tells → OnSwap x (λ s. Belongs s.plan (bytes_of b.slots.main)))
    → OnTurned x (λ s. Underway s (bytes_of b.slots.main) b)
ready_swap q a b p readied same None is fresh belongs = tt
ready_swap q a b p readied same (Some s) is fresh belongs =
    subst (λ (t : Swapping). Underway t (bytes_of b.slots.main) b) (sym fresh.unmade)
    (begins b s.plan (bytes_of b.slots.main) readied.settled.stands (λ tells. belongs (subst IsTrue same tells)))

ready_answer : (q : Request) (a b : Disk) (r : Result Prepared Stop) → Readies q a b r → OnTurned (swap_in r) (λ s. Underway s (bytes_of b.slots.main) b)
unfolding ready_swap
ready_answer q a b (Ok p) readied = ready_swap q a b p readied.ready readied.stays.tells p.swap refl readied.ready.fresh readied.ready.belongs
ready_answer q a b (Err s) readied = tt

ready_one : (q : Request) (a b : Disk) (e : FileEnd) (x : Option Swapping) → Begun q a b e x → OnTurned x (λ s. Underway s (bytes_of b.slots.main) b)
ready_one q a b e x begun = subst (λ (y : Option Swapping). OnTurned y (λ s. Underway s (bytes_of b.slots.main) b)) (sym begun.swap_is) (ready_answer q a b begun.answer begun.readied)

fresh_answer : (q : Request) (a b : Disk) (r : Result Prepared Stop) → Readies q a b r → OnTurned (swap_in r) (λ s. s ≡ fresh s.plan)
fresh_answer q a b (Ok p) readied = go p.swap readied.ready.fresh
  where
    go : (x : Option Swapping) → OnSwap x IsFresh → OnTurned x (λ s. s ≡ fresh s.plan)
    go None h = tt
    go (Some s) h = h.unmade
fresh_answer q a b (Err s) readied = tt

fresh_one : (q : Request) (a b : Disk) (e : FileEnd) (x : Option Swapping) → Begun q a b e x → OnTurned x (λ s. s ≡ fresh s.plan)
fresh_one q a b e x begun = subst (λ (y : Option Swapping). OnTurned y (λ s. s ≡ fresh s.plan)) (sym begun.swap_is) (fresh_answer q a b begun.answer begun.readied)

fresh_by : (swaps : List (Option Swapping)) → ((i : ℕ) → i < length swaps → OnTurned (get_or swaps i None) (λ s. s ≡ fresh s.plan)) → AllFresh swaps
fresh_by [] h = tt
fresh_by (x ∷ swaps) h = (h 0 (omega arith), fresh_by swaps (λ i low. h (suc i) (omega arith)))

module _ {D : Type 0} (disk : D → Disk) (e : List EditItem) (files : List Text) (before mid : List D) (ends : List FileEnd) (swaps : List (Option Swapping)) (begun : BegunAll disk e files before mid ends swaps) (count : length before ≡ length files) where
  some_depot : (i : ℕ) → i < length files → D
  some_depot i low = go before (omega (arith, low, count))
    where
      go : (ds : List D) → 0 < length ds → D
      go [] h = absurd (omega arith)
      go (d ∷ ds) h = d

  pub fresh_all : AllFresh swaps
  unfolding some_depot fresh_one
  fresh_all = fresh_by swaps (λ i low.
      let size = begun.swapped in
      let here : i < length files = omega arith in
      let d = some_depot i here in
      fresh_one (file_request e (get_or files i [])) (disk (get_or before i d)) (disk (get_or mid i d)) (get_or ends i end.Memory) (get_or swaps i None) (begun.each i d end.Memory here))

  pub ready_all : Ready disk (files_of disk mid) (map fresh_member swaps) mid
  unfolding ready_one
  ready_all i m d low =
      let size = begun.swapped in
      let mids = begun.depots in
      let long = length_map fresh_member swaps in
      let here : i < length files = omega arith in
      let member : get_or (map fresh_member swaps) i m ≡ fresh_member (get_or swaps i None) = get_map fresh_member swaps i None m (omega arith) in
      let file : files_of disk mid i ≡ bytes_of (disk (get_or mid i d)).slots.main = get_map (λ (x : D). bytes_of (disk x).slots.main) mid i d [] (omega (arith, here, mids, count)) in
      subst (λ (x : Member). OnTurned (open_swap x) (λ s. Underway s (files_of disk mid i) (disk (get_or mid i d)))) (sym member)
      (subst (λ (o : List ℕ). OnTurned (get_or swaps i None) (λ s. Underway s o (disk (get_or mid i d)))) (sym file)
      (ready_one (file_request e (get_or files i [])) (disk (get_or before i d)) (disk (get_or mid i d)) (get_or ends i end.Memory) (get_or swaps i None) (begun.each i d end.Memory here)))

-- ---- behind the rounds

none_open : (ms : List Member) (i : ℕ) (m : Member) → some_open ms ≡ false → i < length ms → is_open (get_or ms i m) ≡ false
none_open [] i m h low = absurd (omega arith)
none_open (x ∷ ms) zero m h low = left_false (is_open x) (some_open ms) h
  where
    left_false : (s t : Bool) → (s || t) ≡ false → s ≡ false
    left_false true t e = absurd cc
    left_false false t e = refl
none_open (x ∷ ms) (suc i) m h low = none_open ms i m (right_false (is_open x) (some_open ms) h) (omega arith)
  where
    right_false : (s t : Bool) → (s || t) ≡ false → t ≡ false
    right_false true t e = absurd cc
    right_false false t e = e

record AnOpen (ms : List Member) : Type 0 where
  at : ℕ
  inside : at < length ms
  is : (m : Member) → is_open (get_or ms at m) ≡ true

by_first : (x : Member) (ms : List Member) (t : Bool) → is_open x ≡ t → some_open (x ∷ ms) ≡ true → (some_open ms ≡ true → AnOpen ms) → AnOpen (x ∷ ms)
by_first x ms true is h more = record { at = 0; inside = omega arith; is = λ m. is }
by_first x ms false is h more =
    let rest = more (ap (λ (t : Bool). t || some_open ms) (sym is) ∙ h) in
    record { at = suc rest.at; inside = let low = rest.inside in omega (arith, low); is = rest.is }

one_open : (ms : List Member) → some_open ms ≡ true → AnOpen ms
one_open [] h = absurd cc
one_open (x ∷ ms) h = by_first x ms (is_open x) refl h (λ more. one_open ms more)

module _ {D : Type 0} (disk : D → Disk) (lawful : (d : D) → IsLawful (disk d)) (words : List Text) (p : BatchParts) (form : batch_parts words ≡ Some p) (e : List EditItem) (edit : edit_of (p.item ∷ []) ≡ Ok e)
    (rounds : Option ℕ) (before mid after : List D) (count : length before ≡ length p.files) (ends : List FileEnd) (swaps : List (Option Swapping))
    (begun : BegunAll disk e p.files before mid ends swaps) (ms : List Member) (ran : RanRounds disk (files_of disk mid) rounds (map fresh_member swaps) ms mid after) where
  members : length ms ≡ length p.files
  members = ran.ran.members ∙ length_map fresh_member swaps ∙ begun.swapped

  left_at : (i : ℕ) (d : D) (x : FileEnd) (m : Member) → i < length p.files → Left (set_words p.item (get_or p.files i [])) rounds ran.made (disk (get_or before i d)) (disk (get_or after i d)) (get_or ms i m) (get_or ends i x)
  left_at i d x m low =
      let file = get_or p.files i [] in
      let is_form = form_in words p form in
      let asked : request (set_words p.item file) ≡ Ok (file_request e file) = set_request p.item file e is_form.undashed (file_at p i is_form low) edit in
      let size = begun.swapped in
      let mids = begun.depots in
      let long = length_map fresh_member swaps in
      let member : get_or (map fresh_member swaps) i m ≡ fresh_member (get_or swaps i None) = get_map fresh_member swaps i None m (omega (arith, low, size)) in
      let here : files_of disk mid i ≡ bytes_of (disk (get_or mid i d)).slots.main = get_map (λ (y : D). bytes_of (disk y).slots.main) mid i d [] (omega (arith, low, mids, count)) in
      let turns : RanBy disk (open_swap (get_or (map fresh_member swaps) i m)) ran.made (get_or (map fresh_member swaps) i m) (get_or ms i m) (files_of disk mid i) (get_or mid i d) (get_or after i d) =
      ran.ran.each i m d (omega (arith, low, size, long)) in
      left_of (set_words p.item file) e file asked rounds ran.made ran.few disk (disk (get_or before i d)) (get_or mid i d) (get_or after i d)
      (lawful (get_or mid i d)) (lawful (get_or after i d)) (get_or ms i m) (get_or ends i x) (get_or swaps i None) (begun.each i d x low)
      (subst (λ (y : Member). RanBy disk (open_swap y) ran.made y (get_or ms i m) (bytes_of (disk (get_or mid i d)).slots.main) (get_or mid i d) (get_or after i d)) member
      (subst (λ (o : List ℕ). RanBy disk (open_swap (get_or (map fresh_member swaps) i m)) ran.made (get_or (map fresh_member swaps) i m) (get_or ms i m) o (get_or mid i d) (get_or after i d)) here turns))

  module _ (told : List FileEnd) (size : length told ≡ length ends)
      (behind : (i : ℕ) (m : Member) (d : D) (x : FileEnd) → i < length ends → get_or told i x ≡ end_behind (get_or ms i m).swap (disk (get_or after i d)).faults (get_or ends i x)) where
    a_member : Member
    a_member = record { swap = None; ended = true; failed = false }

    ended_at : (i : ℕ) (d : D) (x : FileEnd) → i < length p.files → is_open (get_or ms i a_member) ≡ false → EndsFile (set_words p.item (get_or p.files i [])) rounds (disk (get_or before i d)) (disk (get_or after i d)) (get_or told i x)
    unfolding left_at
    ended_at i d x low shut =
        let long = begun.counted in
        subst (EndsFile (set_words p.item (get_or p.files i [])) rounds (disk (get_or before i d)) (disk (get_or after i d))) (sym (behind i a_member d x (omega (arith, low, long))))
        ((left_at i d x a_member low).ended shut)

    -- every file has its end
    pub each_ends : some_open ms ≡ false → EachEnds disk p rounds before after told
    unfolding members ended_at
    each_ends shut = record {
      depots = ran.ran.depots ∙ begun.depots;
      counted = size ∙ begun.counted;
      each = λ i d x low. ended_at i d x low (none_open ms i a_member shut (let n = members in omega (arith, n, low)));
    }

    -- some go on
    module _ (left : List (Option FileEnd)) (wide : length left ≡ length p.files)
        (is : (i : ℕ) (m : Member) (x : FileEnd) (y : Option FileEnd) → i < length told → get_or left i y ≡ (if is_open (get_or ms i m) then None else Some (get_or told i x))) where
      by_open : (i : ℕ) (d : D) (r : Option ℕ) → i < length p.files → some_open ms ≡ true → rounds ≡ r → (t : Bool) → is_open (get_or ms i a_member) ≡ t
          → EndsOrGoesOn (set_words p.item (get_or p.files i [])) r (disk (get_or before i d)) (disk (get_or after i d)) (if t then None else Some (get_or told i end.Memory))
      unfolding left_at ended_at
      by_open i d r low some same false shut =
          subst (λ (x : Option ℕ). EndsFile (set_words p.item (get_or p.files i [])) x (disk (get_or before i d)) (disk (get_or after i d)) (get_or told i end.Memory)) same (ended_at i d end.Memory low shut)
      by_open i d None low some same true more = absurd (let none = sym same ∙ ran.whole some in cc)
      by_open i d (Some k) low some same true more =
          let n : ran.made ≡ k = some_same (sym (ran.whole some) ∙ same) in
          subst (λ (j : ℕ). GoesOn (set_words p.item (get_or p.files i [])) j (disk (get_or before i d)) (disk (get_or after i d))) n ((left_at i d end.Memory a_member low).on more)
        where
          some_same : {x y : ℕ} → Some x ≡ Some y → x ≡ y
          some_same h = cc

      pub some_go_on : some_open ms ≡ true → SomeGoOn disk p rounds before after left
      unfolding members by_open one_open
      some_go_on some =
          let an = one_open ms some in
          let n = members in
          let long = begun.counted in
          let here : an.at < length told = let low = an.inside in omega (arith, size, n, long, low) in
          record {
            each = record {
              depots = ran.ran.depots ∙ begun.depots;
              counted = wide;
              each = λ i d y low.
                  subst (EndsOrGoesOn (set_words p.item (get_or p.files i [])) rounds (disk (get_or before i d)) (disk (get_or after i d))) (sym (is i a_member end.Memory y (omega (arith, low, size, long))))
                  (by_open i d rounds low some refl (is_open (get_or ms i a_member)) refl);
            };
            at = an.at;
            inside = let low = an.inside in omega (arith, wide, n, low);
            goes_on =
                is an.at a_member end.Memory (Some end.Memory) here
                ∙ ap (λ (t : Bool). if t then None else Some (get_or told an.at end.Memory)) (an.is a_member);
          }
