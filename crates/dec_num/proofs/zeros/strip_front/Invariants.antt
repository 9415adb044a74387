use Rattle.std.proofs.Common.{◌≡◌, ◌≤◌, length, true}
use Rattle.std.specs.Char.{is_ascii_digit}
use Rattle.std.specs.List.{list_all}
use Rattle.mib_model.specs.Decimals.{without_leading}
use Rattle.dec_num.proofs.zeros.strip_front.Given as goal

abbrev pub invariant-loop-rest : goal.invariant-loop-rest
invariant-loop-rest l = record {
  left : without_leading l.rest ≡ without_leading l.digits;
  digits : list_all is_ascii_digit l.digits ≡ true → list_all is_ascii_digit l.rest ≡ true;
  shorter : length l.rest ≤ length l.digits;
}

abbrev pub decreases-loop-rest : goal.decreases-loop-rest
decreases-loop-rest l = length l.rest
