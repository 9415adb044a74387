-- What a run needs. [This project's own.]
use Rattle.std.specs.Prelude.{◌≡◌}
use Rattle.decode_session.specs.declared.stock.RunStock.{RunStock}
use Rattle.decode_session.specs.Finishing.{AreDemandsIn}
use Rattle.edition_plans.specs.Params.{param_slices}
use Rattle.param_state.specs.ParamPlans.{plan_names}
use Rattle.mib_model.specs.declared.database.Database.{Database}

-- what is demanded and what is kept are for the parameters of a database
pub record IsStockOf (db : Database) (stock : RunStock) : Type 0 where
  pub demands : AreDemandsIn db stock.demands.items
  pub names : stock.board.names ≡ plan_names (param_slices db)
