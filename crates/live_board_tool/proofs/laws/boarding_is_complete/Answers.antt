use Rattle.live_board_tool.proofs.WholeFacts.{completes}
use Rattle.live_board_tool.proofs.laws.boarding_is_complete.Goals as goal

pub returns : goal.returns
returns g c code closed w db names octets script text files feeds desks pages tables feed desk page out replies screen a b d e f h i found paged is said =
    completes w db octets script text files feeds desks pages tables feed desk page out replies screen a b d e found paged code closed names is f h i said
