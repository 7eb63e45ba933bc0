mod Enumerated
