-- The examples of RULES hold: each is computed.
use mathlib.Core.Path.{refl}
use Rattle.entry.specs.computed.Check.{checkOf, markOf, cleanOf}
use Rattle.entry.specs.computed.Host.{verdict}
use Rattle.entry.specs.paper.TokenText.{hasText, tokenText}
use Rattle.entry.specs.computed.Listing.{entered, hosted, measuring}
use Rattle.entry.specs.computed.Examples.{Examples}

pub examples : Examples
unfolding entered hosted measuring verdict checkOf markOf cleanOf tokenText hasText
examples = record {
  scripts-hold = refl;
  sign-not-printable = refl;
  newest-signs = refl;
  too-long = λ limits s room long. rw long;
  contact-bytes = refl;
  marks-seen = refl;
  mark-contact = refl;
  mark-behind = refl;
  contact-tokens = refl;
  contact-met = refl;
  not-utf8 = refl;
  refused-seen = refl;
  lent-25 = refl;
  block-15 = refl;
  lent-27 = refl;
  bound-met = refl;
  measured-five = refl;
  measured = refl;
  measured-refused = refl;
  measured-marked = refl;
  measured-31 = refl;
  text-21 = refl;
  text-ok = refl;
}
