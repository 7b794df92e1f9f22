-- RULES, "Listing" and "Marked scripts": the listing's example, and the marked scripts, as the text that the listing program makes.
-- The contract of `listing` asks for them.
use Rattle.std.specs.Prelude.{◌≡◌, IsTrue, List, ℕ, replicate}
use Rattle.chars.specs.paper.Quoted.{codes}
use Rattle.token.specs.computed.Listing.{holdBy}
use Rattle.token.specs.computed.Examples.{marked, listingExample}
use Rattle.entry.specs.computed.Listing.{entered}
use Rattle.listing_text.specs.Lines.{printed}

-- Where this is unfolded, all of the definition is.
unfoldable pub made : List ℕ → List ℕ
unfolding entered printed
made s = printed s

pub record ListingExamples : Type 0 where
  pub listing-holds : IsTrue (holdBy made listingExample)
  pub marked-holds : IsTrue (holdBy made marked)
  -- more than 3,000 bytes
  pub long-holds : made (replicate 3001 0x20) ≡ codes "long\n"
