-- The listings of RULES, "Listing" and "Marked scripts", come out as it says: each is computed.
use mathlib.Core.Path.{refl}
use Rattle.listing_text.specs.Examples.{made, ListingExamples}

pub listing_examples : ListingExamples
unfolding made
listing_examples = record { listing-holds = refl; marked-holds = refl; long-holds = refl }
