-- How a batch ends, from what was started and what its rounds leave.
use Rattle.std.proofs.Common.{◌≡◌, ℕ, ◌+◌, ◌<◌, ◌≤◌, set, ⊎_elim, List, [], ◌∷◌, ◌++◌, length, map, get_or, true, false, Bool, Option, Some, None, Result, Ok, Err, refl, sym, ap, ◌∙◌, subst, arith}
use Rattle.std.specs.Prelude.{if◌then◌else◌}
use Rattle.std.proofs.lemmas.Bool.{cases_eq}
use Rattle.std.proofs.lemmas.List.{get_or-set_same, get_or-set_other}
use Rattle.me_disk.specs.Disk.{Disk, IsLawful}
use Rattle.file_swap.specs.Swap.{Swapping, fresh}
use Rattle.turn_batch.specs.declared.member.Member.{Member}
use Rattle.turn_batch.specs.Members.{failed_in, fresh_member, is_open, some_open}
use Rattle.turn_batch.specs.Schedules.{RanRounds, Ready}
use Rattle.metaedit_top.specs.declared.batch.Started.{Started}
use Rattle.metaedit_top.specs.declared.batch_end.FileEnd.{FileEnd}
use Rattle.metaedit_top.specs.declared.batch_end.FileEnd.TheVariants as end
use Rattle.metaedit_top.specs.declared.batch_text.FileTexts.{FileTexts}
use Rattle.metaedit_top.specs.declared.outcome.UsageFault.{UsageFault}
use Rattle.metaedit_top.specs.Batch.{EachEnds, OfBatch, SomeGoOn, StartsBatch, end_behind}
use Rattle.metaedit_top.specs.BatchText.{AreTextsOf, batch_text, done_count, fault_count, last_line, texts_lines}
use Rattle.metaedit_top.specs.BatchWords.{BatchParts, batch_files, batch_parts, counted, fault_in, files_in, same_from}
use Rattle.metaedit_top.specs.Words.{Text, item}
use Rattle.metaedit_top.proofs.Prints.{lines_of}
use Rattle.metaedit_top.proofs.Rounded.{each_ends, files_of, fresh_all, ready_all, length_map, some_go_on}
use Rattle.metaedit_top.proofs.Starts.{at_any, texts_since}

-- so many files are named as there are
pub files_counted : (words : List Text) (p : BatchParts) (n : ℕ) → batch_files words ≡ Ok n → batch_parts words ≡ Some p → length p.files ≡ n
files_counted words p n h is = go (fault_in (item 1 p.item)) (same_from 1 [] p.files) (sym (ap files_in is) ∙ h)
  where
    go : (f : Option UsageFault) (s : Option ℕ) → counted p.files f s ≡ Ok n → length p.files ≡ n
    go (Some f) s e = absurd cc
    go None (Some k) e = absurd cc
    go None None e = cc

-- ---- the faults, told one by one

module _ {D : Type 0} (disk : D → Disk) (ms : List Member) (ds : List D) (es first : List FileEnd) (i : ℕ) (v w : FileEnd) (size : length es ≡ length first) (low : i < length first)
    (told : (j : ℕ) (m : Member) (d : D) (x : FileEnd) → j < i → get_or es j x ≡ end_behind (get_or ms j m).swap (disk (get_or ds j d)).faults (get_or first j x))
    (rest : (j : ℕ) (x : FileEnd) → i ≤ j → get_or es j x ≡ get_or first j x)
    (v_is : (m : Member) (d : D) → v ≡ end_behind (get_or ms i m).swap (disk (get_or ds i d)).faults w) (w_is : w ≡ get_or es i w) where
  -- one more is told
  pub told_more : (j : ℕ) (m : Member) (d : D) (x : FileEnd) → j < i + 1 → get_or (set es i v) j x ≡ end_behind (get_or ms j m).swap (disk (get_or ds j d)).faults (get_or first j x)
  told_more j m d x below =
      ⊎_elim
      (λ (here : j ≡ i).
      let was : w ≡ get_or first i x = w_is ∙ rest i w (omega arith) ∙ at_any first i w x low in
      subst (λ (k : ℕ). get_or (set es i v) k x ≡ end_behind (get_or ms k m).swap (disk (get_or ds k d)).faults (get_or first k x)) (sym here)
      (get_or-set_same es i v x (omega (arith, low, size)) ∙ v_is m d ∙ ap (λ (e : FileEnd). end_behind (get_or ms i m).swap (disk (get_or ds i d)).faults e) was))
      (λ (other : j ≡ i → ⊥). get_or-set_other es i j v x other ∙ told j m d x (omega (arith, below, other)))
      (cases_eq j i)

  -- and those behind it are as they were
  pub rest_more : (j : ℕ) (x : FileEnd) → i + 1 ≤ j → get_or (set es i v) j x ≡ get_or first j x
  rest_more j x high = get_or-set_other es i j v x (λ here. absurd (omega (arith, here, high))) ∙ rest j x (omega (arith, high))

module _ {D : Type 0} (disk : D → Disk) (lawful : (d : D) → IsLawful (disk d)) (words : List Text) (rounds : Option ℕ) (before mid : List D)
    (n : ℕ) (form : batch_files words ≡ Ok n) (count : length before ≡ n) (s : Started) (o : OfBatch words (λ p. StartsBatch disk p before mid s)) where
  here : length before ≡ length o.parts.files
  here = count ∙ sym (files_counted words o.parts n form o.is)

  -- the members can make their rounds
  pub ready : Ready disk (files_of disk mid) s.batch mid
  unfolding here
  ready =
      subst (λ (ms : List Member). Ready disk (files_of disk mid) ms mid) (sym o.holds.members)
      (ready_all disk o.holds.edit o.parts.files before mid s.ends.items o.holds.swaps o.holds.begun here)

  pub members_counted : length s.batch ≡ length s.ends.items
  members_counted =
      ap (λ (ms : List Member). length ms) o.holds.members ∙ length_map fresh_member o.holds.swaps ∙ o.holds.begun.swapped ∙ sym o.holds.begun.counted

  pub depots_counted : length mid ≡ length s.ends.items
  unfolding here
  depots_counted = o.holds.begun.depots ∙ here ∙ sym o.holds.begun.counted

  pub room_counted : length s.left.items ≡ length s.ends.items
  room_counted = o.holds.left ∙ sym o.holds.begun.counted

  module _ (after : List D) (ms : List Member) (ran : RanRounds disk (files_of disk mid) rounds s.batch ms mid after) (told : List FileEnd) (size : length told ≡ length s.ends.items)
      (behind : (i : ℕ) (m : Member) (d : D) (x : FileEnd) → i < length s.ends.items → get_or told i x ≡ end_behind (get_or ms i m).swap (disk (get_or after i d)).faults (get_or s.ends.items i x)) where
    by_swaps : RanRounds disk (files_of disk mid) rounds (map fresh_member o.holds.swaps) ms mid after
    by_swaps = subst (λ (xs : List Member). RanRounds disk (files_of disk mid) rounds xs ms mid after) o.holds.members ran

    -- no file goes on
    pub all_end : some_open ms ≡ false → EachEnds disk o.parts rounds before after told
    unfolding here by_swaps
    all_end shut =
        each_ends disk lawful words o.parts o.is o.holds.edit o.holds.is rounds before mid after here s.ends.items o.holds.swaps o.holds.begun ms by_swaps told size behind shut

    -- some file goes on
    pub some_left : (left : List (Option FileEnd)) → length left ≡ length s.left.items
        → ((i : ℕ) (m : Member) (x : FileEnd) (y : Option FileEnd) → i < length told → get_or left i y ≡ (if is_open (get_or ms i m) then None else Some (get_or told i x)))
        → some_open ms ≡ true → OfBatch words (λ p. SomeGoOn disk p rounds before after left)
    unfolding here by_swaps
    some_left left wide is some = record {
      parts = o.parts;
      is = o.is;
      holds =
          some_go_on disk lawful words o.parts o.is o.holds.edit o.holds.is rounds before mid after here s.ends.items o.holds.swaps o.holds.begun ms by_swaps told size behind
          left (wide ∙ o.holds.left) is some;
    }

    since : D → Member → (i : ℕ) (x : FileEnd) → i < length s.ends.items → fault_count (get_or told i x) ≡ None → get_or told i x ≡ get_or s.ends.items i x
    since d m i x low none = go (failed_in (get_or ms i m).swap) refl
      where
        told_by : (t : Bool) → failed_in (get_or ms i m).swap ≡ t → get_or told i x ≡ (if t then end.DepotFault (disk (get_or after i d)).faults else get_or s.ends.items i x)
        told_by t is = behind i m d x low ∙ ap (λ (u : Bool). if u then end.DepotFault (disk (get_or after i d)).faults else get_or s.ends.items i x) is

        go : (t : Bool) → failed_in (get_or ms i m).swap ≡ t → get_or told i x ≡ get_or s.ends.items i x
        go true is = absurd (let some : fault_count (get_or told i x) ≡ Some (disk (get_or after i d)).faults = ap fault_count (told_by true is) in cc)
        go false is = told_by false is

    -- the texts that were made are those of the ends, but where a device failed
    pub texts_told : AreTextsOf s.texts.items told
    unfolding since
    texts_told = texts_since s.texts.items s.ends.items told o.holds.texts.lines size (λ i x low. since (some_depot low) a_member i x low)
      where
        a_member : Member
        a_member = record { swap = None; ended = true; failed = false }

        some_depot : {i : ℕ} → i < length s.ends.items → D
        some_depot low = first mid (let m = depots_counted in omega (arith, low, m))
          where
            first : (ds : List D) → 0 < length ds → D
            first [] h = absurd (omega arith)
            first (d ∷ ds) h = d

    -- what is printed by them is the report
    pub report_is : texts_lines s.texts.items told ++ last_line (length told) (done_count told) ≡ batch_text o.parts.files told
    unfolding texts_told
    report_is = ap (λ (ls : List ℕ). ls ++ last_line (length told) (done_count told)) (lines_of o.parts.files s.texts.items told o.holds.texts.names texts_told)
