-- How the intake of a live run ends, and the code of the run.
use Rattle.std.proofs.Common.{◌≡◌, ℕ, ◌<◌, ◌≤◌, ◌==◌, Bool, true, false, not, List, [], length, Option, Result, Ok, Err, refl, sym, ap, ◌∙◌, arith, inl, inr}
use Rattle.std.proofs.lemmas.Bool.{false≢true}
use Rattle.std.proofs.lemmas.Bool.Decides.{nat_tests}
use Rattle.std.specs.Prelude.{if◌then◌else◌}
use Rattle.decode_session.specs.declared.ending.RunEnd.{RunEnd}
use Rattle.decode_session.specs.declared.ending.RunEnd.TheVariants as end
use Rattle.decode_session.specs.declared.ending.RunFault.{RunFault}
use Rattle.decode_session.specs.declared.ending.RunFault.TheVariants as fault
use Rattle.decode_session.specs.declared.ending.Stop.TheVariants as stop
use Rattle.decode_session.specs.Causes.{HasOutCause}
use Rattle.decode_session.specs.Run.{most_packets}
use Rattle.live_desk.specs.declared.desk_end.DeskEnd.{DeskEnd}
use Rattle.live_desk.specs.declared.desk_end.DeskEnd.TheVariants as desk_end
use Rattle.packet_run.specs.Runs.{EndsRun, IsFeedFailed, is_out_failed}
use Rattle.tm_io.specs.Causes.{RisesWhere}
use Rattle.live_session.specs.Codes.{code_by, code_of_end, code_of_desk}
use Rattle.live_session.specs.Live.{IsReadOut, ending_of, object}
use Rattle.run_model.specs.declared.code.Code.TheVariants as code
use Rattle.run_model.specs.Endings.{code_of_ending, code_of_rest}

abbrev pub Known : Type 0
Known = Option (List ℕ)

-- the count of the output rose where it failed
pub out-counts : (ended : Result RunEnd RunFault) (before now : ℕ) → HasOutCause ended before now → RisesWhere (is_out_failed ended) before now
out-counts (Ok e) before now cause = cause
out-counts (Err fault.Feed) before now cause = cause
out-counts (Err (fault.Print stop.Out)) before now cause = cause
out-counts (Err (fault.Print stop.Memory)) before now cause = cause

pub few-packets : (ended : Result RunEnd RunFault) (packets : List (List ℕ)) (rest : List ℕ) (l0 l1 : Known) → EndsRun ended packets rest l0 l1 → length packets ≤ most_packets
few-packets (Ok end.Whole) packets rest l0 l1 ends = let n = ends.2 in omega arith
few-packets (Ok (end.Cut count)) packets rest l0 l1 ends = let n = ends.3 in omega arith
few-packets (Ok end.Limit) packets rest l0 l1 ends = omega (arith, ends)
few-packets (Err fault.Feed) packets rest l0 l1 ends = let n = ends in omega arith
few-packets (Err (fault.Print stop.Out)) packets rest l0 l1 ends = ends
few-packets (Err (fault.Print stop.Memory)) packets rest l0 l1 ends = absurd ends

-- where neither the feed nor the output failed, the feed was read out
pub read-out : (ended : Result RunEnd RunFault) (feed_failed : Bool) (packets : List (List ℕ)) (rest : List ℕ) (l0 l1 : Known) (before now : ℕ) → IsFeedFailed ended feed_failed → EndsRun ended packets rest l0 l1
    → is_out_failed ended ≡ false → feed_failed ≡ false → IsReadOut (object l0 l1 before now) packets
read-out (Ok end.Whole) failed packets rest l0 l1 before now is ends out feed = inl ends.1
read-out (Ok (end.Cut count)) failed packets rest l0 l1 before now is ends out feed = inl ends.2
read-out (Ok end.Limit) failed packets rest l0 l1 before now is ends out feed = inr ends
read-out (Err fault.Feed) failed packets rest l0 l1 before now is ends out feed = absurd (false≢true (sym feed ∙ is))
read-out (Err (fault.Print stop.Out)) failed packets rest l0 l1 before now is ends out feed = absurd (false≢true (sym out))
read-out (Err (fault.Print stop.Memory)) failed packets rest l0 l1 before now is ends out feed = absurd ends

-- ---- the code

rest-none : (limit : Bool) (n : ℕ) → n ≡ 0 → code_of_rest limit n ≡ (if limit then code.Limit else code.Ok)
rest-none limit n none = ap (code_of_rest limit) none

rest-some : (limit : Bool) (n k : ℕ) → n ≡ k → 0 < k → code_of_rest limit n ≡ code.Cut k
rest-some limit n k is some =
    let other : (k == 0) ≡ false = grind (arith, nat_tests) in
    ap (code_of_rest limit) is ∙ ap (λ b. if not b then code.Cut k else if limit then code.Limit else code.Ok) other

is-other : (n k : ℕ) → n < k → (n == k) ≡ false
is-other n k below = grind (arith, nat_tests)

is-same : (n k : ℕ) → n ≡ k → (n == k) ≡ true
is-same n k same = grind (arith, nat_tests)

-- the code of an intake that nothing hindered is that of its rest and of the number of its packets
code-of-end : (e : RunEnd) (packets : List (List ℕ)) (rest : List ℕ) (l0 l1 : Known) → EndsRun (Ok e) packets rest l0 l1 → (length packets ≡ most_packets → rest ≡ []) → code_of_end e ≡ code_of_rest (length packets == most_packets) (length rest)
code-of-end end.Whole packets rest l0 l1 ends limit =
    sym (rest-none (length packets == most_packets) (length rest) (ap (λ (l : List ℕ). length l) ends.0) ∙ ap (λ b. if b then code.Limit else code.Ok) (is-other (length packets) most_packets ends.2))
code-of-end (end.Cut count) packets rest l0 l1 ends limit = sym (rest-some (length packets == most_packets) (length rest) count ends.0 ends.1)
code-of-end end.Limit packets rest l0 l1 ends limit =
    sym (rest-none (length packets == most_packets) (length rest) (ap (λ (l : List ℕ). length l) (limit ends)) ∙ ap (λ b. if b then code.Limit else code.Ok) (is-same (length packets) most_packets ends))

code-unhindered : (e : RunEnd) (desk : DeskEnd) (packets : List (List ℕ)) (rest : List ℕ) → code_of_end e ≡ code_of_rest (length packets == most_packets) (length rest) → code_of_desk e desk ≡ code_of_ending (ending_of false false desk rest packets)
unfolding code_of_ending
code-unhindered e desk_end.ReplyFault packets rest is = refl
code-unhindered e desk_end.DeskFault packets rest is = refl
code-unhindered e desk_end.Done packets rest is = is
code-unhindered e desk_end.Limit packets rest is = is

code-unread : (desk : DeskEnd) (packets : List (List ℕ)) (rest : List ℕ) → code_by (Err fault.Feed) desk ≡ code_of_ending (ending_of false true desk rest packets)
unfolding code_of_ending
code-unread desk_end.ReplyFault packets rest = refl
code-unread desk_end.DeskFault packets rest = refl
code-unread desk_end.Done packets rest = refl
code-unread desk_end.Limit packets rest = refl

code-unwritten : (failed : Bool) (desk : DeskEnd) (packets : List (List ℕ)) (rest : List ℕ) → code.OutFault ≡ code_of_ending (ending_of true failed desk rest packets)
unfolding code_of_ending
code-unwritten failed desk packets rest = refl

-- the code of a run is that of what happened
pub code-is : (ended : Result RunEnd RunFault) (desk : DeskEnd) (feed_failed : Bool) (packets : List (List ℕ)) (rest : List ℕ) (l0 l1 : Known) → IsFeedFailed ended feed_failed → EndsRun ended packets rest l0 l1 → (length packets ≡ most_packets → rest ≡ [])
    → code_by ended desk ≡ code_of_ending (ending_of (is_out_failed ended) feed_failed desk rest packets)
code-is (Ok e) desk failed packets rest l0 l1 is ends limit =
    code-unhindered e desk packets rest (code-of-end e packets rest l0 l1 ends limit) ∙ ap (λ f. code_of_ending (ending_of false f desk rest packets)) (sym is)
code-is (Err fault.Feed) desk failed packets rest l0 l1 is ends limit = code-unread desk packets rest ∙ ap (λ f. code_of_ending (ending_of false f desk rest packets)) (sym is)
code-is (Err (fault.Print stop.Out)) desk failed packets rest l0 l1 is ends limit = code-unwritten failed desk packets rest
code-is (Err (fault.Print stop.Memory)) desk failed packets rest l0 l1 is ends limit = absurd ends
