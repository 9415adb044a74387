-- An ask and its items. [This profile.]
use Rattle.std.specs.Prelude.{List, Option, Some, None, option_map}
use Rattle.build_rules.specs.declared.item.Item.{Item}
use Rattle.build_rules.specs.Asks.{Asked}
use Rattle.build_asks.specs.declared.ask.Ask.{Ask}

-- what is asked for, with its items, where both are there
abbrev pub ask_with : Option Ask → Option (List Item) → Option Asked
ask_with None items = None
ask_with (Some ask) items = option_map (λ those. record { spid = ask.spid; count = ask.count; items = those }) items
