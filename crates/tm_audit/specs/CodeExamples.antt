-- The lines and numbers of audits' ends. [This profile.]
use Rattle.std.specs.Prelude.{◌≡◌, [], codes}
use Rattle.run_model.specs.declared.code.Misuse.TheVariants as misuse
use Rattle.tm_audit.specs.declared.code.AuditCode.TheVariants as code
use Rattle.tm_audit.specs.declared.code.AuditInput.TheVariants as input
use Rattle.tm_audit.specs.Codes.{audit_line, audit_number, finding_text}

-- findings have a text, and other ends a line
pub record CodeExamples : Type 0 where
  pub same : finding_text code.Same ≡ codes "SAME\n"
  pub differs : finding_text (code.Differs 4) ≡ codes "DIFFERS 4\n"
  pub no_edition : finding_text (code.NoEdition 3 2) ≡ codes "NOEDITION 3 COUNT 2\n"
  pub large : finding_text code.Large ≡ codes "LARGE\n"
  pub no_text : audit_line (code.NoFile input.Text) ≡ codes "NOFILE TEXT"
  pub no_feed : audit_line (code.NoFile input.Feed) ≡ codes "NOFILE FEED"
  pub text_fault : audit_line code.TextFault ≡ codes "FAULT TEXT"
  pub words : audit_line (code.Usage misuse.Words) ≡ codes "USAGE WORDS"
  pub quiet : audit_line (code.Differs 4) ≡ []
  pub same_number : audit_number code.Same ≡ 0
  pub differs_number : audit_number (code.Differs 4) ≡ 13
  pub no_edition_number : audit_number (code.NoEdition 3 2) ≡ 14
  pub text_fault_number : audit_number code.TextFault ≡ 15
  pub large_number : audit_number code.Large ≡ 16
  pub no_text_number : audit_number (code.NoFile input.Text) ≡ 4
  pub want_number : audit_number code.Want ≡ 12
