use Rattle.std.proofs.Common.{refl}
use Rattle.decode_session.proofs.drawing.draw_job.Goals as goal
use Rattle.edition_plans.specs.Params.{param_slices}
use Rattle.param_state.specs.Demands.{asked_in}

pub returns : goal.returns
returns g c = λ demands. record {
  number = refl;
  stretch = refl;
  job = λ is_job.
      record {
        are_packets = is_job.are_packets;
        few = c.draw_stretch-job.ensures.few;
        sheet = λ some. c.draw_stretch-job.ensures.drawn (asked_in (param_slices (g.P.Structures.tables c.args.plans.now))) demands;
      };
}
