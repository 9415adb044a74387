use Rattle.row_interpreter.specs.Memories.{memory_of}
use Rattle.row_records.proofs.CourseFacts.{after-is, text-is}
use Rattle.row_records.specs.Stamps.{course_of, stamped_as}
use Rattle.row_records.proofs.course.Course.take.Goals as goal

pub returns-clause-course : goal.returns-clause-course
returns-clause-course c =
    after-is (course_of c.args.self.now) (stamped_as c.args.stamped.now) (memory_of c.turn.new.self.memory) (memory_of c.tell_values.new.memory)
    c.in_ok-turn.ensures.memory c.in_ok-tell_values.ensures.memory

pub returns-clause-text : goal.returns-clause-text
returns-clause-text c =
    text-is (course_of c.args.self.now) (stamped_as c.args.stamped.now) (memory_of c.turn.new.self.memory) c.matched-found.result c.turn.new.out c.tell_head.new.out c.tell_values.new.out
    c.in_ok-turn.ensures.memory c.matched-found.ensures c.in_ok-turn.ensures.text c.tell_head.ensures.text c.in_ok-tell_values.ensures.text
