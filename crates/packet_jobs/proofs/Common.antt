-- The names that most proofs of a packet's steps cite, passed on from one place.
pub use Rattle.std.proofs.Common.{[], ℕ, ◌++◌, ◌∙◌, ◌∷◌, ◌≡◌, ap, List, map, Option, refl, subst, sym, take, true}
pub use Rattle.decode_session.specs.Cells.{packet_in}
pub use Rattle.fold_state.specs.Boards.{is_made_for, memory_of, Slots}
pub use Rattle.param_state.specs.ParamPlans.{plan_names, planned_names}
pub use Rattle.mib_model.specs.Interpreter.{Course, course_after, record_for, StampedPacket, title_of, values_of}
pub use Rattle.mib_model.specs.Texts.{ended_text, head_text, record_body, told_text}
pub use Rattle.mib_model.specs.declared.database.Database.{Database}
pub use Rattle.std.proofs.lemmas.List.Elements.{All-weaker}
pub use Rattle.std.specs.Arc.{arc_value}
pub use Rattle.std.specs.List.{All, flat_map}
