-- The names that most proofs of a run cite, passed on from one place, and what follows of answers.
pub use Rattle.std.proofs.Common.{[], ℕ, ◌*◌, ◌++◌, ◌+◌, ◌-◌, ◌<◌, ◌==◌, ◌∙◌, ◌∷◌, ◌≡◌, ◌≢◌, ◌≤◌, ◌⊎◌, ap, append-nil, append_assoc, arith, Bool, cond, drop, drop-drop, Err, false, get_or, IfSome, inl, inr, length, length-append, List, MatchOption, None, Ok, OnErr, OnOk, Option, refl, Result, reverse, Some, subst, suc, sym, take, take-append-drop, true, vec_capacity, vec_len, zero}
pub use Rattle.commit_order.specs.Windows.{Advances, IsUnchanged, next_of, waiting}
pub use Rattle.decode_pool.proofs.JoinFacts.{each_joined, joined_of_such, works_job, works_nothing, works_other}
pub use Rattle.decode_pool.specs.Joins.{IsStocked, jobs_among, joined_jobs, joined_results, PutsJobs, TellsBalance, WorksItself}
pub use Rattle.decode_pool.specs.Served.{AllServe, Ready}
pub use Rattle.decode_session.specs.Cells.{packet_in, stamped_cell}
pub use Rattle.edition_register.specs.Seats.{first_of, IsSeat}
pub use Rattle.edition_register.specs.Shown.{HasItsTables, last_stamped, stamped_by}
pub use Rattle.fold_state.specs.Boards.{is_made_for, memory_of, Slots}
pub use Rattle.histories.specs.History.{move, moves_of, Permits, StartsWith}
pub use Rattle.mib_model.specs.Interpreter.{Course, course_after, record_for, records_text, StampedPacket, start}
pub use Rattle.run_model.specs.RegisterHistories.{IsRegisterHistory, MayEnter, register_after, RegisterHistory}
pub use Rattle.mib_model.specs.Texts.{cut_text, edition_text_of, ended_text, head_text, record_body, record_text, rest_text, rest_unless, told_text}
pub use Rattle.mib_model.specs.declared.database.Database.{Database}
pub use Rattle.std.proofs.KnownBytes.{Appends-nil, Appends-trans, Consumes-nil, Consumes-trans, Consumes-whole}
pub use Rattle.std.proofs.Math.Seq.{drop-append_seam, take-add, take-append_seam, take-length}
pub use Rattle.std.proofs.lemmas.List.{drop-append-le, drop_all, drop_more, reverse-append, take_all}
pub use Rattle.std.proofs.lemmas.List.Elements.{All-append, All-cons, All-drop, All-head, All-nil, All-push, All-tail, All-weaker, Contains-append_cases, Contains-append_left, Contains-append_right, Contains-push, filter-append}
pub use Rattle.std.specs.Arc.{arc_value}
pub use Rattle.std.specs.Io.KnownBytes.{Appends, Consumes, IsAtEnd}
pub use Rattle.std.specs.List.{All, AllByRecursion, concat, Contains, flat_map, slice_index_or}
pub use Rattle.struct_plan.specs.declared.structure.Structures.{Ghosts}
pub use Rattle.tm_io.specs.Causes.{HasRisen, RisesWhere}
pub use Rattle.turn_cell.specs.Seats.{holdings_of, own_moves, seen_by}
pub use Rattle.work_queue.specs.Passes.{account_of, IsOf}
pub use Rattle.work_queue.specs.declared.account.Account.{Account}
pub use Rattle.work_queue.specs.declared.queue.Pass.{Pass}
pub use Rattle.packet_jobs.specs.Tasks.{AllRight, IsJob, IsOfStamp, IsWorked, number_in}
pub use Rattle.packet_jobs.specs.Turning.{ComesBehind, course_of, edition_told, IsTurned}
pub use Rattle.packet_jobs.specs.declared.in_use.InUse.{InUse}
pub use Rattle.packet_jobs.specs.declared.job.Task.{Task}
pub use Rattle.packet_run.specs.Ending.{EndsAs, PutsEnds}
pub use Rattle.packet_run.specs.Piping.{GoesOn, Going, got_by, Held, Holds, InWork, IsOfInUse, Keeps, Piping, Prints, put_by, results_of, SharesStay, Stays, StaysInUse, Stopped, Takes}
pub use Rattle.packet_run.specs.Printing.{HasPrinted, IsResultOf}
pub use Rattle.packet_run.specs.Reading.{IsStamped, Reads, stamp_of, stamped_as}
pub use Rattle.packet_run.specs.Stamped.{Extends, IsNumberedFrom, stamped_by_moves, stamped_with, text_of}
pub use Rattle.packet_run.specs.Stocks.{HasPasses, IsFirst, IsUnused}
pub use Rattle.packet_run.specs.Told.{begun, From, Member, member}
pub use Rattle.packet_run.specs.declared.parts.Pipeline.{Pipeline}

abbrev pub Known : Type 0
Known = Option (List ℕ)

-- what follows of two facts where a call succeeds, and of one where it fails
pub on_ok : {T E : Type 0} (r : Result T E) (A B C : Type 0) → (A → B → C) → OnOk r A → OnOk r B → OnOk r C
on_ok (Ok v) A B C goes a b = goes a b
on_ok (Err e) A B C goes a b = tt

pub on_err : {T E : Type 0} (r : Result T E) (A B : Type 0) → (A → B) → OnErr r A → OnErr r B
on_err (Ok v) A B goes a = tt
on_err (Err e) A B goes a = goes a
