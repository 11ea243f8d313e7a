-- What the walks through the code cite, and a list worked out by hand.
mod GoingBack
mod EightLines
