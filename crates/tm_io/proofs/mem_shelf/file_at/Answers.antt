use Rattle.tm_io.proofs.FileFacts.{octets_at-get, fails_at-get}
use Rattle.tm_io.proofs.mem_shelf.file_at.Goals as goal

pub returns-clause-octets : goal.returns-clause-octets
returns-clause-octets c = octets_at-get c.args.files.now c.args.place c.index-files-place.result c.requires c.index-files-place.is

pub returns-clause-fails : goal.returns-clause-fails
returns-clause-fails c = fails_at-get c.args.files.now c.args.place c.index-files-place.result c.requires c.index-files-place.is
