use Rattle.live_board_tool.proofs.WholeFacts.{refuses}
use Rattle.live_board_tool.proofs.laws.a_bad_page_is_refused.Goals as goal

pub returns : goal.returns
returns g c code closed w db octets script text line files feeds desks pages tables feed desk page out replies screen a b d e found paged is said =
    refuses w db octets script text files feeds desks pages tables feed desk page out replies screen a b d e found paged code closed line is said
