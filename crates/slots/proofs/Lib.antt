-- Laws: what the walks over the words need, at the wire's number of words.
mod Laws
